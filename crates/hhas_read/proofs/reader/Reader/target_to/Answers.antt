use Rattle.std.proofs.Common.{[], ◌∷◌, refl, subst}
use Rattle.hhas_lex.specs.Tokens.{Mark}
use Rattle.hhbc_repo.specs.Languages.{Ended}
use Rattle.hhbc_repo.specs.CodeSyntax.{ALabel}
use Rattle.hhas_read.specs.Arms.{TargetTo}
use Rattle.hhas_read.specs.Reading.{Past, any}
use Rattle.hhas_read.proofs.Resuming.{reads_on}
use Rattle.hhas_read.proofs.Joining.{behind_resumes, behind_stuck}
use Rattle.hhas_read.proofs.StringArmForms.{some_label_to}
use Rattle.hhas_read.proofs.reader.Reader.target_to.Goals as goal

pub returns-then-not-is_mark : goal.returns-then-not-is_mark
returns-then-not-is_mark c =
    let end = c.args.end in
    behind_stuck any (Mark 58) [] (Ended ALabel (Mark end ∷ [])) c.args.self.now refl (some_label_to end c.requires) c.if-not-is_mark.ensures

pub returns : goal.returns
returns c =
    let old = c.args.self.now in let mid = c.skip.new.self in let A = Ended ALabel (Mark c.args.end ∷ []) in
    reads_on any (TargetTo c.args.end) A old mid c.label_to.new.self (Mark 58 ∷ []) c.label_to.result (behind_resumes any (Mark 58 ∷ []) A mid.tokens)
    (subst (λ t. Past (t ∷ []) old mid) c.if-not-is_mark.ensures c.skip.ensures) c.label_to.ensures
