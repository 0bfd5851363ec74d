-- What the analysis of a body gives, and how the results of all bodies make a round.
use Rattle.std.specs.Prelude.{◌≡◌, ◌⊎◌, ◌<◌, ℕ, List, [], ◌∷◌, map, Some, length, slice_get, Contains}
use Rattle.type_lattice.specs.declared.types.HType.{HType}
use Rattle.type_lattice.specs.Proper.{IsJoin}
use Rattle.hhbc_repo.specs.Linked.{Linked}
use Rattle.hhbc_repo.specs.Bodies.{bodies, tree_of}
use Rattle.hhbc_semantics.specs.Truth.{Facts}
use Rattle.abstract_step.specs.State.{State}
use Rattle.abstract_step.specs.Flow.{Effect, flow}
use Rattle.func_analyze.specs.Solution.{Table, HasState, IsLeast}
use Rattle.func_analyze.specs.Rounds.{initial_types, IsReturned, IsRound}

-- what a body returns, and what it writes
pub record BodyResult : Type 0 where
  pub returned : HType
  pub effects : List Effect

-- a type that a reached position of the body writes to the property
pub record WritesTo (r : Linked) (F : Facts) (n : ℕ) (T : Table) (q : ℕ) (t : HType) : Type 0 where
  pub position : ℕ
  pub state : State
  pub reached : HasState T position state
  pub written : Contains (flow r F n position state).effects (record { property = q; type = t })

-- one effect for each property at most, in the order of properties
abbrev pub AreInOrder : List Effect → Type 0
AreInOrder [] = Unit {0}
AreInOrder (e ∷ []) = Unit {0}
AreInOrder (e ∷ d ∷ more) = (e.property < d.property) × AreInOrder (d ∷ more)

-- under facts a body, by its number, gives the join of what it returns, and for each property that it writes the join of that
pub record IsResult (r : Linked) (F : Facts) (n : ℕ) (x : BodyResult) : Type 0 where
  pub table : Table
  pub least : IsLeast r F n table
  pub returned : IsJoin (tree_of r) (IsReturned r F n table) x.returned
  pub order : AreInOrder x.effects
  pub effects : (q : ℕ) (t : HType) → Contains x.effects (record { property = q; type = t }) → IsJoin (tree_of r) (WritesTo r F n table q) t
  pub all : (q : ℕ) (t : HType) → WritesTo r F n table q t → (u : HType) × Contains x.effects (record { property = q; type = u })

-- some body's result has the effect
pub record IsAmong (results : List BodyResult) (q : ℕ) (t : HType) : Type 0 where
  pub body : ℕ
  pub result : BodyResult
  pub at : slice_get results body ≡ Some result
  pub written : Contains result.effects (record { property = q; type = t })

-- the facts that results of all bodies make: what each returns, and of each property the join of its initial type and all effects
pub record AreJoinedTo (r : Linked) (results : List BodyResult) (G : Facts) : Type 0 where
  pub returns : G.returns ≡ map (λ (x : BodyResult). x.returned) results
  pub props_told : length G.props ≡ length (initial_types r)
  pub props : (q : ℕ) (t : HType) → slice_get G.props q ≡ Some t
      → IsJoin (tree_of r) (λ u. (slice_get (initial_types r) q ≡ Some u) ⊎ IsAmong results q u) t

-- the results of all bodies make a round
abbrev pub ResultsMakeRound : Type 0
ResultsMakeRound =
    (r : Linked) (F G : Facts) (results : List BodyResult) → length results ≡ length (bodies r)
    → ((n : ℕ) (x : BodyResult) → slice_get results n ≡ Some x → IsResult r F n x) → AreJoinedTo r results G → IsRound r F G
