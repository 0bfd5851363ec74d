-- Codes that read and write locals.
use Rattle.std.specs.Prelude.{ℕ, ◌∷◌}
use Rattle.hack_values.specs.declared.cell.Slot.TheVariants as slots
use Rattle.hhbc_repo.specs.declared.body.Body.{Body}
use Rattle.hhbc_semantics.specs.Frames.{World, Frame, Turn, Goes, ahead, push, set_local}
use Rattle.hhbc_semantics.specs.Operands.{with_cell, with_local, with_slot, or_null}

-- the local becomes the topmost cell, which is dropped, or stays
abbrev pub pop_local : ℕ → Frame → World → Turn
pop_local l f w = with_cell f.stack w (λ c rest. Goes (ahead (set_local f l (slots.Cell c)) rest) w)

abbrev pub store_local : ℕ → Frame → World → Turn
store_local l f w = with_cell f.stack w (λ c rest. Goes (ahead (set_local f l (slots.Cell c)) f.stack) w)

-- pushed, and where it is pushed under the topmost cell
abbrev pub get_local : ℕ → Body → Frame → World → Turn
get_local l b f w = with_local b f w l (λ c. Goes (push f c) w)

abbrev pub get_local_quietly : ℕ → Frame → World → Turn
get_local_quietly l f w = with_slot f w l (λ s. Goes (push f (or_null s)) w)

abbrev pub get_local_below : ℕ → Body → Frame → World → Turn
get_local_below l b f w =
    with_local b f w l (λ c. with_cell f.stack w (λ top rest. Goes (ahead f (slots.Cell top ∷ slots.Cell c ∷ rest)) w))

-- moved out
abbrev pub push_local : ℕ → Body → Frame → World → Turn
push_local l b f w = with_local b f w l (λ c. Goes (push (set_local f l slots.Uninit) c) w)

abbrev pub unset_local : ℕ → Frame → World → Turn
unset_local l f w = Goes (ahead (set_local f l slots.Uninit) f.stack) w
