-- Runs with a bound of steps. They go over the repository without its assertions, which may be tested before each step.
use Rattle.std.specs.Prelude.{ℕ, zero, suc, ◌==◌, Bool, true, false, List, [], ◌∷◌, Option, Some, None, slice_get, length, if◌then◌else◌}
use Rattle.hack_values.specs.declared.cell.Cell.{Cell}
use Rattle.hack_values.specs.declared.cell.Slot.{Slot}
use Rattle.type_lattice.specs.declared.types.HType.{HType}
use Rattle.type_lattice.specs.Classes.{Tree}
use Rattle.type_lattice.specs.Member.{Heap, is_member}
use Rattle.hhbc_repo.specs.declared.body.Body.{Body}
use Rattle.hhbc_repo.specs.declared.body.Assert.{Assert}
use Rattle.hhbc_repo.specs.declared.body.Assert.TheVariants as asserts
use Rattle.hhbc_repo.specs.Linked.{Linked}
use Rattle.hhbc_repo.specs.Bodies.{tree_of, body_at, asserts_at}
use Rattle.hhbc_semantics.specs.Setting.{Setting, bare_setting}
use Rattle.hhbc_semantics.specs.Outcome.{Outcome, AssertFalse, Steps, Stuck, UnknownEntry, WrongCount, Underflow}
use Rattle.hhbc_semantics.specs.Frames.{World, Frame}
pub use Rattle.hhbc_semantics.specs.Entering.{function_from, entered}
use Rattle.hhbc_semantics.specs.Steps.{Config, Running, Ended, place_of, next}

-- whether the slot is of the type, where there is a slot
abbrev pub slot_in : Tree → Heap → Option Slot → HType → Option Bool
slot_in tree heap None t = None
slot_in tree heap (Some s) t = Some (is_member tree heap s t)

abbrev pub holds : Tree → Heap → Frame → Assert → Option Bool
holds tree heap f (asserts.Local l t) = slot_in tree heap (slice_get f.locals l) t
holds tree heap f (asserts.Stack i t) = slot_in tree heap (slice_get f.stack i) t

abbrev pub and_then : Option Bool → Option Bool → Option Bool
and_then None more = None
and_then (Some false) more = Some false
and_then (Some true) more = more

-- the assertions in order: whether all hold, or nothing where one that is come to reaches below the stack
abbrev pub test : Tree → Heap → Frame → List Assert → Option Bool
test tree heap f [] = Some true
test tree heap f (a ∷ more) = and_then (holds tree heap f a) (test tree heap f more)

abbrev pub asserts_in : Option Body → ℕ → List Assert
asserts_in None p = []
asserts_in (Some b) p = asserts_at b p

-- the assertions of the frame's position
abbrev pub asserts_of : Linked → Frame → List Assert
asserts_of r f = asserts_in (body_at r f.body) f.position

abbrev pub tested : Option Bool → Frame → World → Config → Config
tested None f w step = Ended (Stuck Underflow) w
tested (Some false) f w step = Ended (AssertFalse (place_of f)) w
tested (Some true) f w step = step

-- one turn: the assertions of the position, if they are tested, and then one step
abbrev pub advance : Setting → Bool → Config → Config
advance S true (Running f fs w) =
    tested (test (tree_of S.repo) w.heap f (asserts_of S.repo f)) f w (next (bare_setting S) (Running f fs w))
advance S false (Running f fs w) = next (bare_setting S) (Running f fs w)
advance S asserted (Ended o w) = Ended o w

-- after so many turns
abbrev pub after : Setting → Bool → Config → ℕ → Config
after S asserted c zero = c
after S asserted c (suc n) = advance S asserted (after S asserted c n)

abbrev pub no_world : World
no_world = record { heap = []; output = [] }

abbrev pub start_in : Option (ℕ × Body) → List Cell → Config
start_in None args = Ended UnknownEntry no_world
start_in (Some e) args = if length args == e.1.params then Running (entered e.0 e.1 args) [] no_world else Ended WrongCount no_world

abbrev pub start : Setting → List ℕ → List Cell → Config
start S entry args = start_in (function_from 0 S.repo.functions entry) args

-- the state of a run of this entry after so many turns
abbrev pub state_after : Setting → List ℕ → List Cell → Bool → ℕ → Config
state_after S entry args asserted n = after S asserted (start S entry args) n

-- how a run ends, and what it wrote
pub record Result : Type 0 where
  pub outcome : Outcome
  pub output : List ℕ

abbrev pub result_of : Config → Result
result_of (Running f fs w) = record { outcome = Steps; output = w.output }
result_of (Ended o w) = record { outcome = o; output = w.output }

-- a run of the function of this name, of at most n steps
abbrev pub run : Setting → List ℕ → List Cell → ℕ → Bool → Result
run S entry args n asserted = result_of (state_after S entry args asserted n)
