-- How facts go from round to round.
use Rattle.std.specs.Prelude.{ℕ, Contains}
use Rattle.type_lattice.specs.declared.types.HType.{HType}
use Rattle.type_lattice.specs.Order.{Le}
use Rattle.type_lattice.specs.Types.{cell}
use Rattle.hhbc_repo.specs.Linked.{Linked}
use Rattle.hhbc_repo.specs.Bodies.{tree_of}
use Rattle.hhbc_semantics.specs.Truth.{Facts}
use Rattle.abstract_step.specs.State.{State}
use Rattle.abstract_step.specs.Flow.{flow}
use Rattle.abstract_step.specs.Laws.{FactsLe}
use Rattle.func_analyze.specs.Solution.{Table, HasState, IsLeast}
use Rattle.func_analyze.specs.Rounds.{IsRound, IsFacts, top}

-- lower facts have a lower round
abbrev pub LowerFactsLowerRound : Type 0
LowerFactsLowerRound =
    (r : Linked) (E F G H : Facts) → FactsLe (tree_of r) F E → IsRound r E G → IsRound r F H → FactsLe (tree_of r) H G

-- in the first round, what a reached position returns or writes is a cell
pub record GivesCells (r : Linked) : Type 0 where
  pub returned : (n : ℕ) (T : Table) → IsLeast r (top r) n T → (p : ℕ) (s : State) → HasState T p s
      → Le (tree_of r) (flow r (top r) n p s).returned cell
  pub effects : (n : ℕ) (T : Table) → IsLeast r (top r) n T → (p : ℕ) (s : State) → HasState T p s
      → (q : ℕ) (t : HType) → Contains (flow r (top r) n p s).effects (record { property = q; type = t }) → Le (tree_of r) t cell

-- facts never rise from round to round
abbrev pub FactsNeverRise : Type 0
FactsNeverRise =
    (r : Linked) → GivesCells r → (n : ℕ) (F G : Facts) → IsFacts r n F → IsRound r F G → FactsLe (tree_of r) G F
