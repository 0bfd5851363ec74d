use Rattle.std.proofs.Common.{[], ◌∷◌, refl, subst}
use Rattle.hhas_lex.specs.Tokens.{Mark}
use Rattle.hhbc_repo.specs.Languages.{Behind}
use Rattle.hhas_read.specs.Arms.{StringArmsToEnd}
use Rattle.hhas_read.specs.Reading.{Past, any}
use Rattle.hhas_read.proofs.Resuming.{reads_on}
use Rattle.hhas_read.proofs.Joining.{behind_resumes, behind_stuck}
use Rattle.hhas_read.proofs.StringArmForms.{some_string_arms}
use Rattle.hhas_read.proofs.reader.Reader.string_arms.Goals as goal

pub returns-then-not-is_mark : goal.returns-then-not-is_mark
returns-then-not-is_mark c = behind_stuck any (Mark 60) [] StringArmsToEnd c.args.self.now refl some_string_arms c.if-not-is_mark.ensures

pub returns : goal.returns
returns c =
    let old = c.args.self.now in let mid = c.skip.new.self in
    reads_on any (Behind (Mark 60 ∷ []) StringArmsToEnd) StringArmsToEnd old mid c.string_arms_to_end.new.self (Mark 60 ∷ []) c.string_arms_to_end.result
    (behind_resumes any (Mark 60 ∷ []) StringArmsToEnd mid.tokens) (subst (λ t. Past (t ∷ []) old mid) c.if-not-is_mark.ensures c.skip.ensures) c.string_arms_to_end.ensures
