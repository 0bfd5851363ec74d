-- Codes that go to a label.
use Rattle.std.specs.Prelude.{ℕ, ℤ, pos, negsuc, ◌-ℤ◌, Bool, true, false, List, [], ◌∷◌, Option, Some, None, slice_get, if◌then◌else◌}
use Rattle.std.specs.Str.{bytes_eq}
use Rattle.hack_values.specs.declared.cell.Cell.{Cell}
use Rattle.hack_values.specs.declared.cell.Cell.TheVariants as cells
use Rattle.hack_values.specs.declared.cell.Slot.{Slot}
use Rattle.hack_values.specs.Casts.{truth}
use Rattle.hhbc_repo.specs.declared.code.Arm.{Arm}
use Rattle.hhbc_semantics.specs.Outcome.{Underflow}
use Rattle.hhbc_semantics.specs.Frames.{World, Frame, Turn, Goes, Ends, Sticks, ahead}
use Rattle.hhbc_semantics.specs.Operands.{with_cell}

-- the frame at this position, with this stack
abbrev pub jump : Frame → ℕ → List Slot → Frame
jump f q stack = record f { position = q; stack = stack }

abbrev pub branch : Bool → Frame → ℕ → List Slot → Frame
branch true f q stack = jump f q stack
branch false f q stack = ahead f stack

-- goes to the label where the topmost cell has this truth
abbrev pub jump_where : Bool → ℕ → Frame → World → Turn
jump_where true q f w = with_cell f.stack w (λ c rest. Goes (branch (truth c) f q rest) w)
jump_where false q f w = with_cell f.stack w (λ c rest. Goes (branch (if truth c then false else true) f q rest) w)

abbrev pub last_arm : List Arm → Option ℕ
last_arm [] = None
last_arm (a ∷ []) = Some a.target
last_arm (a ∷ b ∷ more) = last_arm (b ∷ more)

abbrev pub arm_or_last : Option Arm → List Arm → Option ℕ
arm_or_last None arms = last_arm arms
arm_or_last (Some a) arms = Some a.target

-- the arm at this place, or else the last one
abbrev pub arm_at : ℤ → List Arm → Option ℕ
arm_at (pos n) arms = arm_or_last (slice_get arms n) arms
arm_at (negsuc n) arms = last_arm arms

-- the arms of ints from the first on; other cells take the last arm
abbrev pub int_arm : ℤ → List Arm → Cell → Option ℕ
int_arm first arms (cells.Int i) = arm_at (i -ℤ first) arms
int_arm first arms _ = last_arm arms

abbrev pub has_text : Option (List ℕ) → List ℕ → Bool
has_text None s = false
has_text (Some t) s = bytes_eq t s

-- the first arm of the text, or else the last one
abbrev pub arm_of_text : List ℕ → List Arm → Option ℕ
arm_of_text s [] = None
arm_of_text s (a ∷ []) = Some a.target
arm_of_text s (a ∷ b ∷ more) = if has_text a.text s then Some a.target else arm_of_text s (b ∷ more)

abbrev pub text_arm : List Arm → Cell → Option ℕ
text_arm arms (cells.Str s) = arm_of_text s arms
text_arm arms _ = last_arm arms

-- a switch has an arm
abbrev pub jump_to : Option ℕ → Frame → List Slot → World → Turn
jump_to None f stack w = Ends (Sticks Underflow) w
jump_to (Some q) f stack w = Goes (jump f q stack) w

abbrev pub switch : ℤ → List Arm → Frame → World → Turn
switch first arms f w = with_cell f.stack w (λ c rest. jump_to (int_arm first arms c) f rest w)

abbrev pub switch_text : List Arm → Frame → World → Turn
switch_text arms f w = with_cell f.stack w (λ c rest. jump_to (text_arm arms c) f rest w)
