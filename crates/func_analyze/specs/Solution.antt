-- States at positions that hold together, and the least of them.
use Rattle.std.specs.Prelude.{◌≡◌, ℕ, Some, length}
use Rattle.hhbc_repo.specs.declared.body.Body.{Body}
use Rattle.hhbc_repo.specs.Linked.{Linked}
use Rattle.hhbc_repo.specs.Bodies.{body_at, tree_of}
use Rattle.hhbc_semantics.specs.Truth.{Facts}
use Rattle.abstract_step.specs.State.{State, StateLe, entry_state}
use Rattle.abstract_step.specs.Flow.{flow}
use Rattle.func_analyze.specs.Problem.{TableOf, HasStateOf, HasAboveOf, TableBelow, IsSolutionOf}

-- a state or none for each position
abbrev pub Table : Type 0
Table = TableOf State

abbrev pub HasState : Table → ℕ → State → Type 0
HasState T p s = HasStateOf T p s

-- the table has a state there that is above this one
abbrev pub HasAbove : Linked → Table → ℕ → State → Type 0
HasAbove r T p s = HasAboveOf (StateLe (tree_of r)) T p s

-- a solution for a body, by its number, under facts
pub record IsSolution (r : Linked) (F : Facts) (n : ℕ) (T : Table) : Type 0 where
  pub body : Body
  pub at : body_at r n ≡ Some body
  pub solves : IsSolutionOf (StateLe (tree_of r)) (length body.positions) (entry_state body) (λ p s. (flow r F n p s).to) T

-- the solution that is below every solution; a position is reached where it has a state
pub record IsLeast (r : Linked) (F : Facts) (n : ℕ) (T : Table) : Type 0 where
  pub solution : IsSolution r F n T
  pub least : (U : Table) → IsSolution r F n U → TableBelow (StateLe (tree_of r)) T U
