use Rattle.std.proofs.Common.{[], ◌∷◌, ◌≤◌, ◌∙◌, sym, subst, arith}
use Rattle.hhas_lex.specs.Tokens.{Word}
use Rattle.hhas_read.specs.LeafSyntax.{head_line}
use Rattle.hhas_read.specs.Reading.{Past}
use Rattle.hhas_read.specs.TypeWords.{TypeTail}
use Rattle.hhas_read.specs.WholeTypes.{TypeAtomFrom}
use Rattle.hhas_read.specs.Written.{ends_atom, head_name}
use Rattle.hhas_read.proofs.Heads.{same_head}
use Rattle.hhas_read.proofs.TypeLines.{type_from_resumes, type_from_stuck}
use Rattle.hhas_read.proofs.Resuming.{reads_on}
use Rattle.hhas_read.proofs.reader.Reader.type_atom_from.Goals as goal

pub returns-in_default : goal.returns-in_default
returns-in_default c = type_from_stuck c.args.least c.args.self.now c.requires.low c.requires.high (λ h e low. c.in_default.ensures h e)

pub returns-then-head_line-least : goal.returns-then-head_line-least
returns-then-head_line-least c =
    type_from_stuck c.args.least c.args.self.now c.requires.low c.requires.high
    (λ h e low.
    let same = same_head c.in-Some.head h (sym c.in-Some.ensures ∙ e) in
    let here : c.args.least ≤ head_line c.in-Some.head = subst (λ k. c.args.least ≤ head_line k) (sym same) low in
    omega (arith, here, c.if-head_line-least.true, c.head_line.ensures))

pub returns : goal.returns
returns c =
    let old = c.args.self.now in let mid = c.skip.new.self in let head = c.in-Some.head in
    let low : c.args.least ≤ head_line head = omega (arith, c.if-head_line-least.false, c.head_line.ensures) in
    reads_on ends_atom (TypeAtomFrom c.args.least) (TypeTail head) old mid c.behind_type_head.new.self (Word (head_name head) ∷ []) c.behind_type_head.result
    (type_from_resumes c.args.least head mid.tokens low)
    (subst (λ t. Past (t ∷ []) old mid) c.in-Some.ensures c.skip.ensures) c.behind_type_head.ensures
