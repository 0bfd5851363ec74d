-- What the shapes of positions say of the frames of a run.
use Rattle.std.specs.Prelude.{◌≡◌, ◌≤◌, ◌<◌, ℕ, Bool, true, false, nat_le, List, [], ◌∷◌, Option, Some, None, slice_get, length}
use Rattle.hack_values.specs.declared.cell.Cell.{Cell}
use Rattle.hack_values.specs.declared.cell.Slot.{Slot}
use Rattle.hack_values.specs.declared.cell.Slot.TheVariants as slots
use Rattle.hhbc_repo.specs.declared.code.Code.{Code}
use Rattle.hhbc_repo.specs.declared.body.Body.{Body}
use Rattle.hhbc_repo.specs.declared.body.Assert.{Assert}
use Rattle.hhbc_repo.specs.declared.body.Assert.TheVariants as asserts
use Rattle.hhbc_repo.specs.Linked.{Linked}
use Rattle.hhbc_repo.specs.Bodies.{body_at, code_at, asserts_at}
use Rattle.hhbc_ops.specs.declared.words.Flavour.{Flavour}
use Rattle.hhbc_ops.specs.declared.words.Flavour.TheVariants.{C, U}
use Rattle.hhbc_repo.specs.Codes.{pops, slots_read, iter_use}
use Rattle.hhbc_repo.specs.Edges.{Edge, target, edges}
use Rattle.hhbc_semantics.specs.Setting.{Setting}
use Rattle.hhbc_semantics.specs.Form.{FitsCode}
use Rattle.hhbc_semantics.specs.Frames.{Frame}
use Rattle.hhbc_semantics.specs.Machine.{turn}
use Rattle.hhbc_repo.specs.Shapes.{Shape, AllPass, empty_shape, after, agree, all_within, all_cells, iter_checks, Types}
use Rattle.hhbc_semantics.specs.Soundness.{Analysis, MayThrowAt}
use Rattle.hhbc_semantics.specs.Truth.{IsNeverStuck}

abbrev pub IsOfFlavour : Slot → Flavour → Type 0
IsOfFlavour slots.Uninit C = ⊥
IsOfFlavour slots.Uninit U = Unit {0}
IsOfFlavour (slots.Cell c) C = Unit {0}
IsOfFlavour (slots.Cell c) U = ⊥

-- as many slots as flavours, each of the flavour at its place
abbrev pub AreOfFlavours : List Slot → List Flavour → Type 0
AreOfFlavours [] [] = Unit {0}
AreOfFlavours [] (x ∷ xs) = ⊥
AreOfFlavours (s ∷ ss) [] = ⊥
AreOfFlavours (s ∷ ss) (x ∷ xs) = IsOfFlavour s x × AreOfFlavours ss xs

-- each iterator is live where this says so
abbrev pub AreLive : List (Option (List (Cell × Cell))) → List Bool → Type 0
AreLive [] [] = Unit {0}
AreLive [] (b ∷ bs) = ⊥
AreLive (i ∷ is) [] = ⊥
AreLive (None ∷ is) (true ∷ bs) = ⊥
AreLive (None ∷ is) (false ∷ bs) = AreLive is bs
AreLive (Some items ∷ is) (true ∷ bs) = AreLive is bs
AreLive (Some items ∷ is) (false ∷ bs) = ⊥

-- the frame has as many locals as its body, and its stack and iterators are as the shape says
pub record IsOfShape (r : Linked) (f : Frame) (s : Shape) : Type 0 where
  pub locals : (b : Body) → body_at r f.body ≡ Some b → length f.locals ≡ length b.locals
  pub stack : AreOfFlavours f.stack s.stack
  pub iters : AreLive f.iters s.live

-- an edge of the position hands this shape on to that position
pub record HandsOn (r : Linked) (n p : ℕ) (s : Shape) (q : ℕ) (t : Shape) : Type 0 where
  pub body : Body
  pub at : body_at r n ≡ Some body
  pub place : ℕ
  pub edge : Edge
  pub there : slice_get (edges body p) place ≡ Some edge
  pub leads : q ≡ target edge
  pub shape : t ≡ after body p s edge

-- the position has a code, and the shape has the slots that it takes away and reads, and iterators as it wants them
pub record HasSlots (r : Linked) (n p : ℕ) (s : Shape) : Type 0 where
  pub body : Body
  pub at : body_at r n ≡ Some body
  pub code : Code
  pub there : code_at body p ≡ Some code
  pub enough : nat_le (length (pops code)) (length s.stack) ≡ true
  pub agrees : agree (pops code) s.stack ≡ true
  pub places : all_within (slots_read code) (length s.stack) ≡ true
  pub are_cells : all_cells (slots_read code) s.stack ≡ true
  pub iters : AllPass (iter_checks (iter_use code) s.live)

abbrev pub entry_shape : Option Body → Shape
entry_shape None = record { stack = []; live = [] }
entry_shape (Some b) = empty_shape b

-- frames have shapes, which edges hand on; a turn gets stuck only where the shape lacks slots
abbrev pub by_shapes : Setting → Analysis
by_shapes S = record {
  turn = λ f w. turn S f w;
  State = Shape;
  Facts = Unit {0};
  StateLe = λ s t. s ≡ t;
  Begins = λ F. Unit {0};
  Grows = λ v w. Unit {0};
  Holds = λ f s w. IsOfShape S.repo f s;
  Shares = λ F w. Unit {0};
  MayReturn = λ F n c w. Unit {0};
  IsRaised = λ c w. Unit {0};
  MayThrow = λ n p. MayThrowAt S.repo n p;
  MayStick = λ n p s why. HasSlots S.repo n p s → ⊥;
  entry = λ n. entry_shape (body_at S.repo n);
  Flows = λ F n p s q t. HandsOn S.repo n p s q t;
  MayCall = λ F n p s m. Unit {0};
  Gives = λ F n p s c w. Unit {0};
  Takes = λ F n p s G. Unit {0};
}

-- an assertion of a local is of one of so many
abbrev pub AssertsWithin : ℕ → List Assert → Type 0
AssertsWithin count [] = Unit {0}
AssertsWithin count (asserts.Local l t ∷ more) = (l < count) × AssertsWithin count more
AssertsWithin count (asserts.Stack i t ∷ more) = AssertsWithin count more

-- all codes are those of constants and locals, with their operands, and each body has its parameters among its locals
pub record HasLocalCodes (r : Linked) : Type 0 where
  pub params : (n : ℕ) (b : Body) → body_at r n ≡ Some b → b.params ≤ length b.locals
  pub codes : (n : ℕ) (b : Body) → body_at r n ≡ Some b → (p : ℕ) (c : Code) → code_at b p ≡ Some c → FitsCode (length b.locals) c
  pub claims : (n : ℕ) (b : Body) → body_at r n ≡ Some b → (p : ℕ) → AssertsWithin (length b.locals) (asserts_at b p)

-- no run of a repository of such codes that keeps to its shapes is stuck, whether its assertions are tested or not
abbrev pub LocalCodesNeverStick : Type 0
LocalCodesNeverStick = (S : Setting) → HasLocalCodes S.repo → Types S.repo → IsNeverStuck S
