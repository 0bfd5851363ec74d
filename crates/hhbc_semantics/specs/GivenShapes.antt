-- In every run of a repository that keeps to its shapes each frame has the shape that its position is given, and none is stuck.
use Rattle.std.specs.Prelude.{◌≡◌, ◌<◌, ℕ, Bool, List, [], ◌∷◌, Some, length}
use Rattle.hack_values.specs.declared.cell.Cell.{Cell}
use Rattle.hhbc_repo.specs.declared.body.Body.{Body}
use Rattle.hhbc_repo.specs.Linked.{Linked}
use Rattle.hhbc_repo.specs.Bodies.{body_at}
use Rattle.hhbc_repo.specs.Bare.{bare}
use Rattle.hhbc_repo.specs.Shapes.{Shape, given, Types}
use Rattle.hhbc_semantics.specs.Setting.{Setting}
use Rattle.hhbc_semantics.specs.Frames.{Frame}
use Rattle.hhbc_semantics.specs.Growth.{WorldGrows}
use Rattle.hhbc_semantics.specs.Machine.{turn}
use Rattle.hhbc_semantics.specs.Steps.{Config, Running, Ended}
use Rattle.hhbc_semantics.specs.Run.{state_after}
use Rattle.hhbc_semantics.specs.Soundness.{Analysis, MayThrowAt}
use Rattle.hhbc_semantics.specs.ShapeAnalysis.{IsOfShape, HandsOn, entry_shape}
use Rattle.hhbc_semantics.specs.Accepted.{HasOperands}
use Rattle.hhbc_semantics.specs.Truth.{IsNeverStuck}

-- the shape is the one that the position of the body is given
pub record IsGiven (r : Linked) (n p : ℕ) (s : Shape) : Type 0 where
  pub body : Body
  pub at : body_at r n ≡ Some body
  pub inside : p < length body.positions
  pub given : s ≡ given body p

-- the frame has the shape that its position is given
pub record HasGiven (r : Linked) (f : Frame) (s : Shape) : Type 0 where
  pub shape : IsOfShape r f s
  pub iters : (b : Body) → body_at r f.body ≡ Some b → length f.iters ≡ b.iters
  pub given : IsGiven r f.body f.position s

-- frames have the shapes of their positions, which edges hand on; no turn gets stuck
abbrev pub by_given : Setting → Analysis
by_given S = record {
  turn = λ f w. turn S f w;
  State = Shape;
  Facts = Unit {0};
  StateLe = λ s t. s ≡ t;
  Begins = λ F. Unit {0};
  Grows = λ v w. WorldGrows v w;
  Holds = λ f s w. HasGiven S.repo f s;
  Shares = λ F w. Unit {0};
  MayReturn = λ F n c w. Unit {0};
  IsRaised = λ c w. Unit {0};
  MayThrow = λ n p. MayThrowAt S.repo n p;
  MayStick = λ n p s why. ⊥;
  entry = λ n. entry_shape (body_at S.repo n);
  Flows = λ F n p s q t. HandsOn S.repo n p s q t;
  MayCall = λ F n p s m. Unit {0};
  Gives = λ F n p s c w. Unit {0};
  Takes = λ F n p s G. Unit {0};
}

-- no run of a repository that has its operands and keeps to its shapes is stuck, whatever the natives, and whether its assertions are
-- tested or not
abbrev pub NeverSticks : Type 0
NeverSticks = (S : Setting) → HasOperands S.repo → Types S.repo → IsNeverStuck S

abbrev pub AllGiven : Linked → List Frame → Type 0
AllGiven r [] = Unit {0}
AllGiven r (f ∷ fs) = ((s : Shape) × HasGiven r f s) × AllGiven r fs

-- each frame of the state has the shape of its position
abbrev pub FramesAreGiven : Linked → Config → Type 0
FramesAreGiven r (Running f fs w) = AllGiven r (f ∷ fs)
FramesAreGiven r (Ended o w) = Unit {0}

-- in every state of every run, each frame has the shape of its position, those that wait for a call too
abbrev pub FramesKeepShapes : Type 0
FramesKeepShapes =
    (S : Setting) → HasOperands S.repo → Types S.repo → (entry : List ℕ) (args : List Cell) (asserted : Bool) (n : ℕ)
    → FramesAreGiven (bare S.repo) (state_after S entry args asserted n)
