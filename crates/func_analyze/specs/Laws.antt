-- How the states along a body without jumps answer the definitions.
use Rattle.std.specs.Prelude.{◌≡◌, ℕ, suc, Some, List, [], ◌∷◌, FitsSigned}
use Rattle.std.proofs.Common.{w64}
use Rattle.hhbc_repo.specs.declared.code.Code.{Code}
use Rattle.hhbc_repo.specs.declared.code.Code.TheVariants as kinds
use Rattle.hhbc_repo.specs.declared.body.Position.{Position}
use Rattle.hhbc_repo.specs.Codes.{int_of}
use Rattle.hhbc_repo.specs.Linked.{Linked}
use Rattle.hhbc_semantics.specs.Setting.{Setting}
use Rattle.hhbc_semantics.specs.LocalCodes.{OnlyLocalCodes}
use Rattle.hhbc_semantics.specs.Form.{IsFirstForm, IsSecondForm}
use Rattle.hhbc_repo.specs.Bare.{bare}
use Rattle.hhbc_semantics.specs.Truth.{Facts, AreTrue, IsNeverStuck, IsFaithful}
use Rattle.hhbc_repo.specs.Shapes.{Types}
use Rattle.hhbc_repo.specs.Spelled.{HasSpelling}
use Rattle.abstract_step.specs.State.{entry_state}
use Rattle.func_analyze.specs.Solution.{IsLeast}
use Rattle.func_analyze.specs.Rounds.{IsFacts}
use Rattle.func_analyze.specs.Annotated.{IsAnnotated}
use Rattle.func_analyze.specs.Chain.{chain, annotated_by}

-- in a repository of the first form they are the least solution, under any facts
abbrev pub ChainIsLeast : Type 0
ChainIsLeast =
    (r : Linked) (form : IsFirstForm r) (F : Facts)
    → IsLeast (bare r) F 0 (chain form.body.positions (Some (entry_state form.body)))

-- an operand that is an int is one of 64 bits, as those of each program are
abbrev pub IsWord : Code → Type 0
IsWord (kinds.Plain i) = FitsSigned w64 (int_of i.imms)
IsWord (kinds.Member m) = Unit {0}

abbrev pub AreWords : List Position → Type 0
AreWords [] = Unit {0}
AreWords (p ∷ ps) = IsWord p.code × AreWords ps

-- what they annotate is the annotated repository after any number of rounds from 1
abbrev pub ChainAnnotates : Type 0
ChainAnnotates = (r : Linked) (form : IsFirstForm r) → AreWords form.body.positions → (n : ℕ) → IsAnnotated (suc n) r (annotated_by r)

-- where the flow has rows for all codes, the annotated repository, after any number of rounds, runs as the original does, all its claims are true,
-- and no run of it is stuck where none of the original is
abbrev pub AnnotatedIsFaithful : Type 0
AnnotatedIsFaithful =
    (S : Setting) (a : Linked) (n : ℕ) → OnlyLocalCodes S.repo → IsAnnotated n S.repo a → IsNeverStuck S → IsFaithful S a

-- a repository of the first form has one annotated repository
abbrev pub AnnotatedIsUnique : Type 0
AnnotatedIsUnique = (r a : Linked) (form : IsFirstForm r) → AreWords form.body.positions → (n : ℕ) → IsAnnotated (suc n) r a → a ≡ annotated_by r

-- the facts after any number of rounds are true in every run, where the flow has rows for all codes
abbrev pub FactsAreTrue : Type 0
FactsAreTrue = (S : Setting) (n : ℕ) (F : Facts) → OnlyLocalCodes S.repo → IsFacts (bare S.repo) n F → AreTrue S F

-- a repository of the second form is annotated along its codes as they stand without claims
abbrev pub BareChainAnnotates : Type 0
BareChainAnnotates = (r : Linked) (form : IsSecondForm r) → AreWords form.body.positions → (n : ℕ) → IsAnnotated (suc n) r (annotated_by (bare r))

-- the annotated repository of one of the second form is faithful to it
abbrev pub SecondIsFaithful : Type 0
SecondIsFaithful = (S : Setting) (a : Linked) → IsSecondForm S.repo → Types S.repo → (n : ℕ) → IsAnnotated (suc n) S.repo a → IsFaithful S a

-- a repository of the second form has one annotated repository
abbrev pub SecondIsUnique : Type 0
SecondIsUnique = (r a : Linked) (form : IsSecondForm r) → AreWords form.body.positions → (n : ℕ) → IsAnnotated (suc n) r a → a ≡ annotated_by (bare r)

-- a repository of the second form that has a spelling has one when it is annotated
abbrev pub AnnotatedHasSpelling : Type 0
AnnotatedHasSpelling = (r : Linked) → IsSecondForm r → HasSpelling r → HasSpelling (annotated_by (bare r))
