-- Facts after rounds over all bodies.
use Rattle.std.specs.Prelude.{◌≡◌, ◌⊎◌, ℕ, zero, suc, List, ◌∷◌, map, flat_map, Some, length, replicate, slice_get, Contains}
use Rattle.type_lattice.specs.declared.types.HType.{HType}
use Rattle.type_lattice.specs.declared.types.StrPart.TheVariants as strs
use Rattle.type_lattice.specs.Types.{never, cell, literal}
use Rattle.type_lattice.specs.Proper.{IsJoin}
use Rattle.hhbc_repo.specs.declared.repo.Class.{Class}
use Rattle.hhbc_repo.specs.declared.repo.Property.{Property}
use Rattle.hhbc_repo.specs.Linked.{Linked}
use Rattle.hhbc_repo.specs.Bodies.{bodies, tree_of}
use Rattle.hhbc_semantics.specs.Truth.{Facts}
use Rattle.abstract_step.specs.State.{State}
use Rattle.abstract_step.specs.Flow.{flow}
use Rattle.func_analyze.specs.Solution.{Table, HasState, IsLeast}

-- the types of the initial values of all properties, by number; a message begins as any string
abbrev pub initial_types : Linked → List HType
initial_types r =
    record never { str = strs.Any }
    ∷ flat_map (λ (c : Class). map (λ (p : Property). literal p.initial) c.props) r.classes

-- every type is every cell's
abbrev pub top : Linked → Facts
top r = record { returns = replicate (length (bodies r)) cell; props = replicate (length (initial_types r)) cell }

-- a type that a reached position of the body returns
pub record IsReturned (r : Linked) (F : Facts) (n : ℕ) (T : Table) (t : HType) : Type 0 where
  pub position : ℕ
  pub state : State
  pub reached : HasState T position state
  pub returned : (flow r F n position state).returned ≡ t

-- a type that a reached position of some body writes to the property
pub record IsWritten (r : Linked) (F : Facts) (Ts : List Table) (q : ℕ) (t : HType) : Type 0 where
  pub body : ℕ
  pub table : Table
  pub at : slice_get Ts body ≡ Some table
  pub position : ℕ
  pub state : State
  pub reached : HasState table position state
  pub written : Contains (flow r F body position state).effects (record { property = q; type = t })

-- the type of the initial value, or one that is written
abbrev pub IsHeld : Linked → Facts → List Table → ℕ → HType → Type 0
IsHeld r F Ts q t = (slice_get (initial_types r) q ≡ Some t) ⊎ IsWritten r F Ts q t

-- the least solution of each body
pub record AreLeast (r : Linked) (F : Facts) (Ts : List Table) : Type 0 where
  pub count : length Ts ≡ length (bodies r)
  pub least : (n : ℕ) (T : Table) → slice_get Ts n ≡ Some T → IsLeast r F n T

-- G is what a round under F gives: of each body the join of what it returns, and of each property of what it holds
pub record IsRound (r : Linked) (F G : Facts) : Type 0 where
  pub tables : List Table
  pub least : AreLeast r F tables
  pub bodies_told : length G.returns ≡ length (bodies r)
  pub returns : (n : ℕ) (T : Table) (t : HType) → slice_get tables n ≡ Some T → slice_get G.returns n ≡ Some t
      → IsJoin (tree_of r) (IsReturned r F n T) t
  pub props_told : length G.props ≡ length (initial_types r)
  pub props : (q : ℕ) (t : HType) → slice_get G.props q ≡ Some t → IsJoin (tree_of r) (IsHeld r F tables q) t

-- the facts after n rounds
abbrev pub IsFacts : Linked → ℕ → Facts → Type 0
IsFacts r zero G = G ≡ top r
IsFacts r (suc n) G = (F : Facts) × IsFacts r n F × IsRound r F G
