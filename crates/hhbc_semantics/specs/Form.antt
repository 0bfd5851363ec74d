-- The forms that are read: one function of constants and locals, without parameters and jumps. The first form has no claims.
use Rattle.std.specs.Prelude.{◌≡◌, ◌<◌, ◌≤◌, ℕ, List, [], ◌∷◌, Option, Some, None, length, codes, Contains}
use Rattle.hhbc_ops.specs.declared.op.Op.{Op}
use Rattle.hhbc_ops.specs.declared.op.Op.TheVariants as ops
use Rattle.hhbc_repo.specs.declared.code.Code.{Code}
use Rattle.hhbc_repo.specs.declared.code.Code.TheVariants as kinds
use Rattle.hhbc_repo.specs.declared.code.Imm.{Imm}
use Rattle.hhbc_repo.specs.declared.code.Imm.TheVariants as imms
use Rattle.type_lattice.specs.declared.types.HType.{HType}
use Rattle.hhbc_repo.specs.declared.body.Assert.{Assert}
use Rattle.hhbc_repo.specs.declared.body.Assert.TheVariants as asserts
use Rattle.hhbc_repo.specs.declared.body.Body.{Body}
use Rattle.hhbc_repo.specs.declared.body.Position.{Position}
use Rattle.hhbc_repo.specs.Linked.{Linked}
use Rattle.hhbc_semantics.specs.PlainTypes.{IsPlainType}

-- no two of the names are equal
abbrev pub AllDiffer : List (List ℕ) → Type 0
AllDiffer [] = Unit {0}
AllDiffer (name ∷ names) = (Contains names name → ⊥) × AllDiffer names

-- the operands are those that the instruction takes, and a local is one of so many
abbrev pub FitsOperands : ℕ → Op → List Imm → Type 0
FitsOperands count ops.Null [] = Unit {0}
FitsOperands count ops.True [] = Unit {0}
FitsOperands count ops.False [] = Unit {0}
FitsOperands count ops.Int (imms.Int i ∷ []) = Unit {0}
FitsOperands count ops.PopC [] = Unit {0}
FitsOperands count ops.SetL (imms.Local l ∷ []) = l < count
FitsOperands count ops.CGetL (imms.Local l ∷ []) = l < count
FitsOperands count ops.RetC [] = Unit {0}
FitsOperands count _ _ = ⊥

-- a plain instruction with its operands, and whether it ends the body
abbrev pub FitsCode : ℕ → Code → Type 0
FitsCode count (kinds.Plain i) = FitsOperands count i.op i.imms
FitsCode count (kinds.Member m) = ⊥

abbrev pub IsReturn : Code → Type 0
IsReturn (kinds.Plain i) = i.op ≡ ops.RetC
IsReturn (kinds.Member m) = ⊥

pub record FitsPosition (count : ℕ) (p : Position) : Type 0 where
  pub bare : p.asserts ≡ []
  pub fits : FitsCode count p.code

-- each position fits, and the last one and no other returns
abbrev pub FitPositions : ℕ → List Position → Type 0
FitPositions count [] = ⊥
FitPositions count (p ∷ []) = FitsPosition count p × IsReturn p.code
FitPositions count (p ∷ q ∷ ps) = FitsPosition count p × (IsReturn p.code → ⊥) × FitPositions count (q ∷ ps)

pub record IsFirstBody (b : Body) : Type 0 where
  pub name : b.name ≡ codes "main"
  pub params : b.params ≡ 0
  pub iters : b.iters ≡ 0
  pub stated : b.stated ≡ None
  pub regions : b.regions ≡ []
  pub differ : AllDiffer b.locals
  pub locals : length b.locals ≤ 255
  pub few : length b.positions ≤ 200
  pub positions : FitPositions (length b.locals) b.positions

-- one function, and no class
pub record IsFirstForm (r : Linked) : Type 0 where
  pub body : Body
  pub functions : r.functions ≡ body ∷ []
  pub classes : r.classes ≡ []
  pub first : IsFirstBody body

-- an assertion of a plain type, of one of so many locals or of a slot
abbrev pub FitsAssert : ℕ → Assert → Type 0
FitsAssert count (asserts.Local l t) = (l < count) × IsPlainType t
FitsAssert count (asserts.Stack i t) = (i ≤ 254) × IsPlainType t

abbrev pub FitAsserts : ℕ → List Assert → Type 0
FitAsserts count [] = Unit {0}
FitAsserts count (a ∷ more) = FitsAssert count a × FitAsserts count more

abbrev pub FitsStated : Option HType → Type 0
FitsStated None = Unit {0}
FitsStated (Some t) = IsPlainType t

-- a position as before, but with assertions
pub record FitsClaimed (count : ℕ) (p : Position) : Type 0 where
  pub claims : FitAsserts count p.asserts
  pub fits : FitsCode count p.code

abbrev pub FitClaimed : ℕ → List Position → Type 0
FitClaimed count [] = ⊥
FitClaimed count (p ∷ []) = FitsClaimed count p × IsReturn p.code
FitClaimed count (p ∷ q ∷ ps) = FitsClaimed count p × (IsReturn p.code → ⊥) × FitClaimed count (q ∷ ps)

pub record IsSecondBody (b : Body) : Type 0 where
  pub name : b.name ≡ codes "main"
  pub params : b.params ≡ 0
  pub iters : b.iters ≡ 0
  pub stated : FitsStated b.stated
  pub regions : b.regions ≡ []
  pub differ : AllDiffer b.locals
  pub locals : length b.locals ≤ 255
  pub few : length b.positions ≤ 200
  pub positions : FitClaimed (length b.locals) b.positions

-- the second form: the first, but with assertions and a stated type
pub record IsSecondForm (r : Linked) : Type 0 where
  pub body : Body
  pub functions : r.functions ≡ body ∷ []
  pub classes : r.classes ≡ []
  pub second : IsSecondBody body
