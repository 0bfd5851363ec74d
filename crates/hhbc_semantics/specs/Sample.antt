-- A small language on the frames of the machine, with calls and exceptions, and an analysis of it: which cells are ints, and whether anything is written.
use Rattle.std.specs.Prelude.{◌≡◌, ◌⊎◌, ℕ, ℤ, suc, Bool, true, false, List, [], ◌∷◌, ◌++◌, Option, Some, None, slice_get}
use Rattle.hack_values.specs.declared.cell.Cell.{Cell}
use Rattle.hack_values.specs.declared.cell.Cell.TheVariants as cells
use Rattle.hack_values.specs.declared.cell.Slot.{Slot}
use Rattle.hack_values.specs.declared.cell.Slot.TheVariants as slots
use Rattle.hhbc_repo.specs.declared.body.Body.{Body}
use Rattle.hhbc_repo.specs.Linked.{Linked}
use Rattle.hhbc_repo.specs.Bodies.{body_at}
use Rattle.hhbc_semantics.specs.Outcome.{Undefined, Underflow}
use Rattle.hhbc_semantics.specs.Exceptions.{raises}
use Rattle.hhbc_semantics.specs.Frames.{World, Frame, Turn, Goes, Calls, Returns, Ends, Fails, Sticks, push}
use Rattle.hhbc_semantics.specs.Operands.{with_cell}
use Rattle.hhbc_semantics.specs.Steps.{Running, handler_in, steps_by}
use Rattle.hhbc_semantics.specs.Run.{no_world}
use Rattle.hhbc_semantics.specs.Soundness.{Analysis, AreByRounds, TrueOf}

-- pushes an int or Null, writes a byte, calls a body, raises an exception, returns the topmost cell
pub data Act : Type 0 where
  Number : ℤ → Act
  Nothing : Act
  Write : ℕ → Act
  Call : ℕ → Act
  Throw : Act
  Return : Act

-- the acts of each body, whose handlers are those of the repository
abbrev pub Program : Type 0
Program = List (List Act)

abbrev pub act_in : Option (List Act) → ℕ → Option Act
act_in None p = None
act_in (Some acts) p = slice_get acts p

abbrev pub act_at : Program → ℕ → ℕ → Option Act
act_at program b p = act_in (slice_get program b) p

-- a frame that enters a body
abbrev pub fresh : ℕ → Frame
fresh b = record { body = b; position = 0; locals = []; stack = []; iters = []; this = None }

abbrev pub call : Option Body → ℕ → World → Turn
call None b w = Ends (Fails Undefined) w
call (Some body) b w = Calls (fresh b) w

abbrev pub act : Linked → Option Act → Frame → World → Turn
act r None f w = Ends (Sticks Underflow) w
act r (Some (Number i)) f w = Goes (push f (cells.Int i)) w
act r (Some Nothing) f w = Goes (push f cells.Null) w
act r (Some (Write byte)) f w = Goes (record f { position = suc f.position }) (record w { output = w.output ++ byte ∷ [] })
act r (Some (Call b)) f w = call (body_at r b) b w
act r (Some Throw) f w = raises 0 [] w
act r (Some Return) f w = with_cell f.stack w (λ c rest. Returns c w)

-- what is known of a cell
pub data Kind : Type 0 where
  Int : Kind
  Any : Kind

abbrev pub IsOf : Cell → Kind → Type 0
IsOf c Int = (i : ℤ) × (c ≡ cells.Int i)
IsOf c Any = Unit {0}

-- the topmost slot, where there is one, holds a cell of the kind
abbrev pub TopIs : List Slot → Kind → Type 0
TopIs [] Int = ⊥
TopIs [] Any = Unit {0}
TopIs (slots.Uninit ∷ rest) Int = ⊥
TopIs (slots.Uninit ∷ rest) Any = Unit {0}
TopIs (slots.Cell c ∷ rest) k = IsOf c k

abbrev pub KindLe : Kind → Kind → Type 0
KindLe k Any = Unit {0}
KindLe Int Int = Unit {0}
KindLe Any Int = ⊥

-- what each body returns, and whether nothing is written
pub record Known : Type 0 where
  pub returns : List Kind
  pub silent : Bool

abbrev pub or_any : Option Kind → Kind
or_any None = Any
or_any (Some k) = k

abbrev pub kind_of : Known → ℕ → Kind
kind_of F b = or_any (slice_get F.returns b)

-- the position behind, with a cell of the kind on top; an exception goes to the handler, with a cell of any kind
abbrev pub ActFlows : Known → ℕ → Kind → Option ℕ → Option Act → ℕ → Kind → Type 0
ActFlows F p s handler None q t = ⊥
ActFlows F p s handler (Some (Number i)) q t = (q ≡ suc p) × (t ≡ Int)
ActFlows F p s handler (Some Nothing) q t = (q ≡ suc p) × (t ≡ Any)
ActFlows F p s handler (Some (Write byte)) q t = (q ≡ suc p) × (t ≡ s)
ActFlows F p s handler (Some (Call b)) q t = ((q ≡ suc p) × (t ≡ kind_of F b)) ⊎ ((handler ≡ Some q) × (t ≡ Any))
ActFlows F p s handler (Some Throw) q t = (handler ≡ Some q) × (t ≡ Any)
ActFlows F p s handler (Some Return) q t = ⊥

abbrev pub ActGives : Kind → Option Act → Cell → Type 0
ActGives s (Some Return) c = IsOf c s
ActGives s _ c = ⊥

abbrev pub ActThrows : Option Act → Type 0
ActThrows (Some (Call b)) = Unit {0}
ActThrows (Some Throw) = Unit {0}
ActThrows _ = ⊥

abbrev pub ActTakes : Option Act → Known → Type 0
ActTakes (Some (Write byte)) G = G.silent ≡ false
ActTakes _ G = Unit {0}

abbrev pub CallsTo : Option Act → ℕ → Type 0
CallsTo (Some (Call b)) m = m ≡ b
CallsTo _ m = ⊥

abbrev pub sample : Program → Linked → Analysis
sample program r = record {
  turn = λ f w. act r (act_at program f.body f.position) f w;
  State = Kind;
  Facts = Known;
  StateLe = KindLe;
  Begins = λ F. Unit {0};
  Grows = λ v w. Unit {0};
  Holds = λ f s w. TopIs f.stack s;
  Shares = λ F w. F.silent ≡ true → w.output ≡ [];
  MayReturn = λ F b c w. IsOf c (kind_of F b);
  IsRaised = λ c w. Unit {0};
  MayThrow = λ b p. ActThrows (act_at program b p);
  MayStick = λ b p s why. Unit {0};
  entry = λ b. Any;
  Flows = λ F b p s q t. ActFlows F p s (handler_in (body_at r b) p) (act_at program b p) q t;
  MayCall = λ F b p s m. CallsTo (act_at program b p) m;
  Gives = λ F b p s c w. ActGives s (act_at program b p) c;
  Takes = λ F b p s G. ActTakes (act_at program b p) G;
}

-- nothing is known
abbrev pub unknown : Known
unknown = record { returns = []; silent = false }

-- in each run of a program the facts after any number of rounds are true
abbrev pub SampleIsTrue : Type 0
SampleIsTrue =
    (program : Program) (r : Linked) (b : ℕ) (body : Body) → body_at r b ≡ Some body
    → (n : ℕ) (F : Known) → AreByRounds r (sample program r) unknown n F
    → (m : ℕ) → TrueOf r (sample program r) F (steps_by (sample program r).turn r (Running (fresh b) [] no_world) m)
