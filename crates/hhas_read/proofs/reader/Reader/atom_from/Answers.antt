use Rattle.std.proofs.Common.{[], ◌∷◌, ◌≤◌, ◌∙◌, sym, subst, arith}
use Rattle.hhas_lex.specs.Tokens.{Word}
use Rattle.hhas_read.specs.Atoms.{Tail}
use Rattle.hhas_read.specs.LeafSyntax.{AtomFrom, head_line}
use Rattle.hhas_read.specs.Reading.{Past}
use Rattle.hhas_read.specs.Written.{ends_atom, head_name}
use Rattle.hhas_read.proofs.Lines.{from_resumes, from_stuck, head_stuck}
use Rattle.hhas_read.proofs.Reserved.{never_both}
use Rattle.hhas_read.proofs.Resuming.{reads_on}
use Rattle.hhas_read.proofs.reader.Reader.atom_from.Goals as goal

pub returns-in_default : goal.returns-in_default
returns-in_default c = from_stuck c.args.keys c.args.least c.args.self.now c.requires (λ h e low fits. c.in_default.ensures h e)

pub returns-then-not-is_among : goal.returns-then-not-is_among
returns-then-not-is_among c =
    head_stuck c.args.keys c.args.least c.args.self.now c.in-Some.head c.requires c.in-Some.ensures
    (λ low fits. never_both (sym fits ∙ sym c.is_among.ensures ∙ c.if-not-is_among.true))

pub returns-then-head_line-least : goal.returns-then-head_line-least
returns-then-head_line-least c =
    head_stuck c.args.keys c.args.least c.args.self.now c.in-Some.head c.requires c.in-Some.ensures
    (λ low fits. omega (arith, low, c.if-head_line-least.true, c.head_line.ensures))

pub returns : goal.returns
returns c =
    let old = c.args.self.now in let mid = c.skip.new.self in let head = c.in-Some.head in
    let low : c.args.least ≤ head_line head = omega (arith, c.if-head_line-least.false, c.head_line.ensures) in
    reads_on ends_atom (AtomFrom c.args.keys c.args.least) (Tail head) old mid c.behind_head.new.self (Word (head_name head) ∷ []) c.behind_head.result
    (from_resumes c.args.keys c.args.least head mid.tokens low (sym c.is_among.ensures ∙ c.if-not-is_among.false))
    (subst (λ t. Past (t ∷ []) old mid) c.in-Some.ensures c.skip.ensures) c.behind_head.ensures
