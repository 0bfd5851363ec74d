-- What types say of the frames of a run.
use Rattle.std.specs.Prelude.{◌≡◌, ℕ, Bool, true, List, [], ◌∷◌, Option, Some, None, slice_get, Contains}
use Rattle.hack_values.specs.declared.cell.Cell.{Cell}
use Rattle.type_lattice.specs.declared.types.HType.{HType}
use Rattle.type_lattice.specs.Order.{Le}
use Rattle.type_lattice.specs.Member.{Heap, cell_in}
use Rattle.hhbc_repo.specs.declared.body.Body.{Body}
use Rattle.hhbc_repo.specs.Linked.{Linked}
use Rattle.hhbc_repo.specs.Bodies.{body_at, tree_of}
use Rattle.hhbc_repo.specs.Bare.{bare}
use Rattle.hhbc_semantics.specs.Setting.{Setting}
use Rattle.hhbc_semantics.specs.LocalCodes.{OnlyLocalCodes}
use Rattle.hhbc_semantics.specs.Growth.{WorldGrows}
use Rattle.hhbc_semantics.specs.Frames.{Frame}
use Rattle.hhbc_semantics.specs.Machine.{turn}
use Rattle.hhbc_semantics.specs.Steps.{Config, Running, Ended}
use Rattle.hhbc_semantics.specs.Run.{state_after}
use Rattle.hhbc_semantics.specs.Soundness.{Analysis, MayThrowAt}
use Rattle.hhbc_semantics.specs.Truth.{Facts, HoldIn, AreArguments, each}
use Rattle.abstract_step.specs.State.{State, StateLe, entry_state}
use Rattle.abstract_step.specs.Flow.{flow, exception_type}
use Rattle.abstract_step.specs.Laws.{Lies}
use Rattle.func_analyze.specs.Solution.{Table, HasState}
use Rattle.func_analyze.specs.Rounds.{initial_types, AreLeast, IsFacts}

abbrev pub entry_in : Option Body → State
entry_in None = record { locals = []; stack = []; iters = [] }
entry_in (Some b) = entry_state b

-- the facts are above the types of initial values
pub record AreBegun (r : Linked) (G : Facts) : Type 0 where
  pub initial : (q : ℕ) (t u : HType) → slice_get (initial_types r) q ≡ Some t → slice_get G.props q ≡ Some u → Le (tree_of r) t u

-- the second facts are above what the state at the position writes under the first
pub record AreTaken (r : Linked) (F : Facts) (n p : ℕ) (s : State) (G : Facts) : Type 0 where
  pub written : (q : ℕ) (t u : HType) → Contains (flow r F n p s).effects (record { property = q; type = t }) → slice_get G.props q ≡ Some u
      → Le (tree_of r) t u

-- frames lie in the types of states, and facts are types of what bodies return and properties hold; none of the codes that the flow has rows for
-- calls a body
abbrev pub by_types : Setting → Analysis
by_types S = record {
  turn = λ f w. turn S f w;
  State = State;
  Facts = Facts;
  StateLe = λ s t. StateLe (tree_of S.repo) s t;
  Begins = λ F. AreBegun S.repo F;
  Grows = WorldGrows;
  Holds = λ f s w. Lies (tree_of S.repo) f w.heap s;
  Shares = λ F w. HoldIn S.repo (each F.props) w.heap;
  MayReturn = λ F n c w. (t : HType) → slice_get (each F.returns) n ≡ Some (Some t) → cell_in (tree_of S.repo) w.heap c t ≡ true;
  IsRaised = λ c w. cell_in (tree_of S.repo) w.heap c exception_type ≡ true;
  MayThrow = λ n p. MayThrowAt S.repo n p;
  MayStick = λ n p s why. Unit {0};
  entry = λ n. entry_in (body_at S.repo n);
  Flows = λ F n p s q t. Contains (flow S.repo F n p s).to (q, t);
  MayCall = λ F n p s m. ⊥;
  Gives = λ F n p s c w. cell_in (tree_of S.repo) w.heap c (flow S.repo F n p s).returned ≡ true;
  Takes = λ F n p s G. AreTaken S.repo F n p s G;
}

-- the frame lies in the state that its body's table has at its position
pub record LiesIn (r : Linked) (Ts : List Table) (f : Frame) (heap : Heap) : Type 0 where
  pub table : Table
  pub at : slice_get Ts f.body ≡ Some table
  pub state : State
  pub reached : HasState table f.position state
  pub lies : Lies (tree_of r) f heap state

abbrev pub AllLieIn : Linked → List Table → List Frame → Heap → Type 0
AllLieIn r Ts [] heap = Unit {0}
AllLieIn r Ts (f ∷ fs) heap = LiesIn r Ts f heap × AllLieIn r Ts fs heap

-- all frames do, those that wait for a call too
abbrev pub FramesLieIn : Linked → List Table → Config → Type 0
FramesLieIn r Ts (Running f fs w) = AllLieIn r Ts (f ∷ fs) w.heap
FramesLieIn r Ts (Ended o w) = Unit {0}

-- in every state of every run each frame lies in the least solution under the facts after any number of rounds, where the flow has rows for all codes
abbrev pub FramesLie : Type 0
FramesLie =
    (S : Setting) (n : ℕ) (F : Facts) → OnlyLocalCodes S.repo → IsFacts (bare S.repo) n F → (Ts : List Table) → AreLeast (bare S.repo) F Ts
    → (entry : List ℕ) (args : List Cell) (asserted : Bool) (m : ℕ) → AreArguments args
    → FramesLieIn (bare S.repo) Ts (state_after S entry args asserted m)
