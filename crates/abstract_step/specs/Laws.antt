-- How flows go with each other and with what codes do.
use Rattle.std.specs.Prelude.{◌≡◌, ℕ, suc, true, Option, Some, None, Contains}
use Rattle.type_lattice.specs.declared.types.HType.{HType}
use Rattle.type_lattice.specs.Classes.{Tree}
use Rattle.type_lattice.specs.Order.{Le}
use Rattle.type_lattice.specs.Member.{Heap, cell_in, AreMembers}
use Rattle.hhbc_repo.specs.declared.code.Code.{Code}
use Rattle.hhbc_repo.specs.declared.body.Body.{Body}
use Rattle.hhbc_repo.specs.Linked.{Linked}
use Rattle.hhbc_repo.specs.Bodies.{tree_of}
use Rattle.hhbc_semantics.specs.Setting.{Setting}
use Rattle.hhbc_semantics.specs.LocalCodes.{IsLocalCode}
use Rattle.hhbc_semantics.specs.Truth.{Facts}
use Rattle.hhbc_semantics.specs.Frames.{World, Frame, Turn, Goes, Calls, Returns, Raises, Ends}
use Rattle.hhbc_semantics.specs.Machine.{perform_code}
use Rattle.abstract_step.specs.State.{State, AllLe, StateLe, is_alive}
use Rattle.abstract_step.specs.Flow.{Row, Flows, row, flow}

pub record FactsLe (tree : Tree) (F G : Facts) : Type 0 where
  pub returns : AllLe tree F.returns G.returns
  pub props : AllLe tree F.props G.props

-- to each flow of the one there is one of the other to the same position, above it; likewise for effects
pub record FlowsLe (tree : Tree) (v w : Flows) : Type 0 where
  pub to : (q : ℕ) (s : State) → Contains v.to (q, s) → (t : State) × Contains w.to (q, t) × StateLe tree s t
  pub returned : Le tree v.returned w.returned
  pub effects : (q : ℕ) (t : HType) → Contains v.effects (record { property = q; type = t })
      → (u : HType) × Contains w.effects (record { property = q; type = u }) × Le tree t u

-- lower states without a type that has no members, and lower facts, have lower flows
abbrev pub FlowIsMonotone : Type 0
FlowIsMonotone =
    (r : Linked) (F G : Facts) (n p : ℕ) (s t : State) → FactsLe (tree_of r) F G → is_alive s ≡ true → StateLe (tree_of r) s t
    → FlowsLe (tree_of r) (flow r F n p s) (flow r G n p t)

-- the frame's slots are of the types of the state
pub record Lies (tree : Tree) (f : Frame) (heap : Heap) (s : State) : Type 0 where
  pub locals : AreMembers tree heap f.locals s.locals
  pub stack : AreMembers tree heap f.stack s.stack

abbrev pub LiesBehind : Tree → Frame → Heap → Option State → Type 0
LiesBehind tree f heap None = ⊥
LiesBehind tree f heap (Some s) = Lies tree f heap s

-- what a turn of the frame does is in the row: where it goes on, it goes to the position behind, and the world stays
abbrev pub Fits : Tree → Frame → World → Row → Turn → Type 0
Fits tree f w o (Goes g v) = LiesBehind tree g w.heap o.behind × (g.position ≡ suc f.position) × (g.body ≡ f.body) × (v ≡ w)
Fits tree f w o (Calls g v) = ⊥
Fits tree f w o (Returns c v) = (cell_in tree w.heap c o.returned ≡ true) × (v ≡ w)
Fits tree f w o (Raises e v) = Unit {0}
Fits tree f w o (Ends e v) = Unit {0}

-- the step law for the codes that the flow has rows for: from a frame that lies in a state, what a code does is in its row
abbrev pub CodeFitsRow : Type 0
CodeFitsRow =
    (S : Setting) (F : Facts) (n : ℕ) (c : Code) (b : Body) (f : Frame) (w : World) (s : State) → IsLocalCode c → Lies (tree_of S.repo) f w.heap s
    → Fits (tree_of S.repo) f w (row S.repo F n c s) (perform_code S (Some c) b f w)
