use Rattle.std.proofs.Common.{[], ◌∷◌, ◌≡◌, true, ◌≤◌, ◌∙◌, sym, subst, arith}
use Rattle.hhas_lex.specs.Tokens.{Word}
use Rattle.hhas_read.specs.Constraints.{BroadFrom, BroadTail, broad_head}
use Rattle.hhas_read.specs.LeafSyntax.{head_line}
use Rattle.hhas_read.specs.Reading.{Past}
use Rattle.hhas_read.specs.Written.{ends_atom, head_name}
use Rattle.hhas_read.proofs.Broad.{broad_resumes, broad_stuck}
use Rattle.hhas_read.proofs.Heads.{same_head}
use Rattle.hhas_read.proofs.Reserved.{never_both}
use Rattle.hhas_read.proofs.Resuming.{reads_on}
use Rattle.hhas_read.proofs.reader.Reader.broad_from.Goals as goal

pub returns-in_default : goal.returns-in_default
returns-in_default c = broad_stuck c.args.least c.args.self.now c.requires (λ h e low fits. c.in_default.ensures h e)

pub returns-then-not-is_broad : goal.returns-then-not-is_broad
returns-then-not-is_broad c =
    broad_stuck c.args.least c.args.self.now c.requires
    (λ h e low fits.
    let same = same_head h c.in-Some.head (sym e ∙ c.in-Some.ensures) in
    let here = subst (λ k. broad_head k ≡ true) same fits in
    never_both (sym here ∙ sym c.is_broad.ensures ∙ c.if-not-is_broad.true))

pub returns-then-head_line-least : goal.returns-then-head_line-least
returns-then-head_line-least c =
    broad_stuck c.args.least c.args.self.now c.requires
    (λ h e low fits.
    let same = same_head h c.in-Some.head (sym e ∙ c.in-Some.ensures) in
    let here : c.args.least ≤ head_line c.in-Some.head = subst (λ k. c.args.least ≤ head_line k) same low in
    omega (arith, here, c.if-head_line-least.true, c.head_line.ensures))

pub returns : goal.returns
returns c =
    let old = c.args.self.now in let mid = c.skip.new.self in let head = c.in-Some.head in
    let low : c.args.least ≤ head_line head = omega (arith, c.if-head_line-least.false, c.head_line.ensures) in
    reads_on ends_atom (BroadFrom c.args.least) (BroadTail head) old mid c.behind_broad_head.new.self (Word (head_name head) ∷ []) c.behind_broad_head.result
    (broad_resumes c.args.least head mid.tokens low (sym c.is_broad.ensures ∙ c.if-not-is_broad.false))
    (subst (λ t. Past (t ∷ []) old mid) c.in-Some.ensures c.skip.ensures) c.behind_broad_head.ensures
