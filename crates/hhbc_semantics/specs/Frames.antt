-- The frames of a run, and what a turn of one of them comes to. A turn sees its own frame alone; what the frames below it do is said in `Steps`.
use Rattle.std.specs.Prelude.{ℕ, suc, List, ◌∷◌, Option, slice_set}
use Rattle.hack_values.specs.declared.cell.Cell.{Cell}
use Rattle.hack_values.specs.declared.cell.Slot.{Slot}
use Rattle.hack_values.specs.declared.cell.Slot.TheVariants as slots
use Rattle.type_lattice.specs.Member.{Heap}
use Rattle.hhbc_semantics.specs.Outcome.{FatalName, Why}

-- what all frames share
pub record World : Type 0 where
  pub heap : Heap
  pub output : List ℕ

-- a call in progress: its locals, its stack with the topmost slot first, of each iterator the elements that still follow
-- where it is live, and the object that it was called on
pub record Frame : Type 0 where
  pub body : ℕ
  pub position : ℕ
  pub locals : List Slot
  pub stack : List Slot
  pub iters : List (Option (List (Cell × Cell)))
  pub this : Option ℕ

-- the end of a run within a turn
pub data End : Type 0 where
  Fails : FatalName → End
  Sticks : Why → End

-- a frame goes on, calls another, returns a cell, raises an object that is in the heap, or ends the run
pub data Turn : Type 0 where
  Goes : Frame → World → Turn
  Calls : Frame → World → Turn
  Returns : Cell → World → Turn
  Raises : Cell → World → Turn
  Ends : End → World → Turn

-- the frame at its next position, with this stack
abbrev pub ahead : Frame → List Slot → Frame
ahead f stack = record f { position = suc f.position; stack = stack }

abbrev pub push : Frame → Cell → Frame
push f c = ahead f (slots.Cell c ∷ f.stack)

abbrev pub set_local : Frame → ℕ → Slot → Frame
set_local f l s = record f { locals = slice_set f.locals l s }
