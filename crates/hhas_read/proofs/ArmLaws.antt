-- Lists of arms, with the marks around them, stand apart from what follows, and have one value.
use Rattle.std.proofs.Common.{[], ◌∷◌, ◌++◌, refl, sym, ap, ◌∙◌, codes}
use Rattle.hhas_lex.specs.Tokens.{Word, Mark, front}
use Rattle.hhbc_repo.specs.Languages.{Behind, Both}
use Rattle.hhbc_repo.specs.CodeSyntax.{AnArm, AStringArm}
use Rattle.hhas_read.specs.Arms.{ArmsToEnd, StringArmsToEnd, TargetTo}
use Rattle.hhas_read.specs.Reading.{any}
use Rattle.hhas_read.proofs.Joining.{Lawful, behind_lawful, both_lawful}
use Rattle.hhas_read.proofs.OneToken.{just_lawful}
use Rattle.hhas_read.proofs.Making.{made_lawful}
use Rattle.hhas_read.proofs.Many.{Apart, run_lawful}
use Rattle.hhas_read.proofs.ArmForms.{AngleEnd, ArmsLeft, all_of, arm_lawful, arms_resume}
use Rattle.hhas_read.proofs.StringArmForms.{Default, Texts, string_arm_lawful, target_lawful, texts_resume, with_default}

arm_or_end : Apart any any AnArm AngleEnd
arm_or_end a v x n o b u y m p e = absurd (cc (sym (ap (λ l. front (l ++ x)) n.0.0) ∙ sym e ∙ ap (λ l. front (l ++ y)) m))

left_lawful : Lawful any ArmsLeft
left_lawful = run_lawful any any AnArm AngleEnd (λ b v x n o. refl) arm_lawful (just_lawful any (Mark 62) refl) arm_or_end

pub arms_lawful : Lawful any (Behind (Mark 60 ∷ []) ArmsToEnd)
arms_lawful =
    behind_lawful any (Mark 60 ∷ []) ArmsToEnd refl
    (made_lawful any ArmsToEnd (Both AnArm ArmsLeft) all_of arms_resume (both_lawful any any AnArm ArmsLeft (λ b v x n o. refl) arm_lawful left_lawful))

text_or_default : Apart any any AStringArm Default
text_or_default a v x n o b u y m p e = absurd (cc (sym (ap (λ l. front (l ++ x)) n.1.1.tokens) ∙ sym e ∙ ap (λ l. front (l ++ y)) m.tokens))

default_lawful : Lawful any Default
default_lawful = behind_lawful any (Word (codes "default") ∷ []) (TargetTo 62) refl (target_lawful 62 refl)

texts_lawful : Lawful any Texts
texts_lawful = run_lawful any any AStringArm Default (λ b v x n o. refl) string_arm_lawful default_lawful text_or_default

pub string_arms_lawful : Lawful any (Behind (Mark 60 ∷ []) StringArmsToEnd)
string_arms_lawful =
    behind_lawful any (Mark 60 ∷ []) StringArmsToEnd refl (made_lawful any StringArmsToEnd Texts with_default texts_resume texts_lawful)
