-- How least solutions go with each other.
use Rattle.std.specs.Prelude.{◌≡◌, ◌↔◌, ℕ, true, Some, length, Contains}
use Rattle.type_lattice.specs.Classes.{Tree, below}
use Rattle.hhbc_repo.specs.declared.body.Body.{Body}
use Rattle.hhbc_repo.specs.Linked.{Linked}
use Rattle.hhbc_repo.specs.Bodies.{body_at, tree_of}
use Rattle.hhbc_semantics.specs.Truth.{Facts}
use Rattle.abstract_step.specs.State.{State, StateLe, is_alive, entry_state}
use Rattle.abstract_step.specs.Flow.{flow}
use Rattle.abstract_step.specs.Laws.{FactsLe}
use Rattle.func_analyze.specs.Solution.{Table, HasState, HasAbove, IsSolution, IsLeast}
use Rattle.func_analyze.specs.Problem.{IsLeastOf}

-- a class below one that is below a third is below the third, whatever the tree
abbrev pub ClassesAreTransitive : Type 0
ClassesAreTransitive = (tree : Tree) (a b c : ℕ) → below tree a b ≡ true → below tree b c ≡ true → below tree a c ≡ true

-- under these facts the states of the body flow alike
abbrev pub FlowsAlike : Linked → Facts → Facts → ℕ → Type 0
FlowsAlike r F G n = (p : ℕ) (s : State) (q : ℕ) (t : State) → Contains (flow r F n p s).to (q, t) ↔ Contains (flow r G n p s).to (q, t)

-- equal flows have equal least solutions
abbrev pub LeastIsByFlows : Type 0
LeastIsByFlows = (r : Linked) (F G : Facts) (n : ℕ) → FlowsAlike r F G n → (T : Table) → IsLeast r F n T ↔ IsLeast r G n T

-- lower facts have a lower least solution, below each solution under the higher facts
abbrev pub LowerFactsLowerLeast : Type 0
LowerFactsLowerLeast =
    (r : Linked) (F G : Facts) (n : ℕ) → FactsLe (tree_of r) F G
    → (T U : Table) → IsLeast r F n T → IsSolution r G n U
    → (p : ℕ) (s : State) → HasState T p s → HasAbove r U p s

-- no state of a least solution has a type without members
abbrev pub LeastIsAlive : Type 0
LeastIsAlive = (r : Linked) (F : Facts) (n : ℕ) (T : Table) → IsLeast r F n T → (p : ℕ) (s : State) → HasState T p s → is_alive s ≡ true

-- the least solution of a body is that of its flows as a problem
abbrev pub LeastOfFlows : Type 0
LeastOfFlows =
    (r : Linked) (F : Facts) (n : ℕ) (b : Body) → body_at r n ≡ Some b → (T : Table)
    → IsLeast r F n T ↔ IsLeastOf (StateLe (tree_of r)) (length b.positions) (entry_state b) (λ p s. (flow r F n p s).to) T
