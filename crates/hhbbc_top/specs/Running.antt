-- The plain machine of the program, as runs are defined.
use Rattle.std.specs.Prelude.{◌≡◌, ℕ, List, [], ◌++◌, map, reverse, Option, Some, None, Result, Ok, Err, slice_get, codes}
use Rattle.hack_values.specs.declared.cell.Cell.{Cell}
use Rattle.hack_values.specs.declared.cell.Cell.TheVariants as cells
use Rattle.hack_values.specs.declared.cell.Slot.{Slot}
use Rattle.hack_values.specs.declared.cell.Slot.TheVariants as slots
use Rattle.hack_values.specs.declared.memory.NoMemory.{NoMemory}
use Rattle.hhbc_semantics.specs.Exceptions.{undefined_variable, raises}
use Rattle.hhbc_semantics.specs.Frames.{Frame}
use Rattle.hhbc_semantics.specs.Operands.{name_or_none}
use Rattle.hhbc_semantics.specs.Frames as frames
use Rattle.hhbc_semantics.specs.Outcome.{Outcome, Place, Underflow}
use Rattle.hhbc_semantics.specs.Outcome as outcomes
use Rattle.hhbc_semantics.specs.Run.{no_world}
use Rattle.hhbc_semantics.specs.Steps.{Config, Running, Ended}
use Rattle.hhbbc_top.specs.declared.machine.Value.{Value}
use Rattle.hhbbc_top.specs.declared.machine.Value.TheVariants as values
use Rattle.hhbbc_top.specs.declared.machine.Machine.{Machine}
use Rattle.hhbbc_top.specs.declared.machine.Turn.{Turn}
use Rattle.hhbbc_top.specs.declared.machine.Turn.TheVariants as turns
use Rattle.hhbbc_top.specs.declared.machine.Ending.{Ending}
use Rattle.hhbbc_top.specs.declared.machine.Ending.TheVariants as endings

abbrev pub cell_of : Value → Cell
cell_of values.Null = cells.Null
cell_of (values.Bool b) = cells.Bool b
cell_of (values.Int i) = cells.Int i

abbrev pub full : Value → Slot
full v = slots.Cell (cell_of v)

abbrev pub slot_of : Option Value → Slot
slot_of None = slots.Uninit
slot_of (Some v) = full v

-- the frame of the one function; the program keeps the top of the stack last
abbrev pub frame_of : Machine → Frame
frame_of m = record {
  body = 0;
  position = m.position;
  locals = map slot_of m.locals.items;
  stack = map full (reverse m.stack.items);
  iters = [];
  this = None;
}

abbrev pub config_of : Machine → Config
config_of m = Running (frame_of m) [] no_world

-- the message of the exception that a local isn't set
abbrev pub undefined : List (List ℕ) → ℕ → List ℕ
undefined locals l = codes "undefined $" ++ name_or_none (slice_get locals l)

-- what a code did, from the names of the locals and the frame behind it
abbrev pub turn_of : List (List ℕ) → Turn → Frame → frames.Turn
turn_of locals turns.Goes f = frames.Goes f no_world
turn_of locals (turns.Returns v) f = frames.Returns (cell_of v) no_world
turn_of locals (turns.Raises l) f = raises undefined_variable (undefined locals l) no_world
turn_of locals turns.Sticks f = frames.Ends (frames.Sticks Underflow) no_world

abbrev pub place : ℕ → Place
place p = record { body = 0; position = p }

-- how a run ended, from the names of the locals
abbrev pub outcome_of : List (List ℕ) → Ending → Outcome
outcome_of locals (endings.Returned v) = outcomes.Returned (cell_of v)
outcome_of locals (endings.Undefined l p) = outcomes.Uncaught undefined_variable (undefined locals l) (place p)
outcome_of locals (endings.AssertFalse p) = outcomes.AssertFalse (place p)
outcome_of locals endings.StepsSpent = outcomes.Steps
outcome_of locals endings.Stuck = outcomes.Stuck Underflow

-- the run has ended so, and wrote nothing
abbrev pub HasEnded : Config → Outcome → Type 0
HasEnded (Running f fs w) o = ⊥
HasEnded (Ended p w) o = (p ≡ o) × (w.output ≡ [])

-- a turn led there: the run goes on, or has ended
abbrev pub Turned : List (List ℕ) → Result (Option Ending) NoMemory → Machine → Config → Type 0
Turned locals (Ok None) m c = c ≡ config_of m
Turned locals (Ok (Some e)) m c = HasEnded c (outcome_of locals e)
Turned locals (Err _) m c = Unit {0}
