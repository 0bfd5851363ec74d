-- What a code takes from its frame: each goes on with what is there, or says how the turn ends without it.
use Rattle.std.specs.Prelude.{ℕ, zero, suc, List, [], ◌∷◌, ◌++◌, Option, Some, None, slice_get, codes}
use Rattle.hack_values.specs.declared.cell.Cell.{Cell}
use Rattle.hack_values.specs.declared.cell.Cell.TheVariants as cells
use Rattle.hack_values.specs.declared.cell.Slot.{Slot}
use Rattle.hack_values.specs.declared.cell.Slot.TheVariants as slots
use Rattle.hhbc_repo.specs.declared.body.Body.{Body}
use Rattle.hhbc_semantics.specs.Outcome.{Underflow, WrongFlavour}
use Rattle.hhbc_semantics.specs.Frames.{World, Frame, Turn, Ends, Sticks}
use Rattle.hhbc_semantics.specs.Exceptions.{undefined_variable, raises, refuses}

-- the topmost slot, which is to be a cell
abbrev pub with_cell : List Slot → World → (Cell → List Slot → Turn) → Turn
with_cell [] w go = Ends (Sticks Underflow) w
with_cell (slots.Uninit ∷ rest) w go = Ends (Sticks WrongFlavour) w
with_cell (slots.Cell c ∷ rest) w go = go c rest

-- the topmost slot, which is to be Uninit
abbrev pub with_uninit : List Slot → World → (List Slot → Turn) → Turn
with_uninit [] w go = Ends (Sticks Underflow) w
with_uninit (slots.Uninit ∷ rest) w go = go rest
with_uninit (slots.Cell c ∷ rest) w go = Ends (Sticks WrongFlavour) w

-- so many cells from the top on, the deepest first and before those that were taken already
abbrev pub with_cells : ℕ → List Cell → List Slot → World → (List Cell → List Slot → Turn) → Turn
with_cells zero taken stack w go = go taken stack
with_cells (suc n) taken stack w go = with_cell stack w (λ c rest. with_cells n (c ∷ taken) rest w go)

abbrev pub name_or_none : Option (List ℕ) → List ℕ
name_or_none None = []
name_or_none (Some name) = name

abbrev pub read_slot : Option Slot → List ℕ → World → (Cell → Turn) → Turn
read_slot None name w go = Ends (Sticks Underflow) w
read_slot (Some slots.Uninit) name w go = raises undefined_variable (codes "undefined $" ++ name) w
read_slot (Some (slots.Cell c)) name w go = go c

-- the cell of a local, or the exception that there is none
abbrev pub with_local : Body → Frame → World → ℕ → (Cell → Turn) → Turn
with_local b f w l go = read_slot (slice_get f.locals l) (name_or_none (slice_get b.locals l)) w go

abbrev pub found_slot : Option Slot → World → (Slot → Turn) → Turn
found_slot None w go = Ends (Sticks Underflow) w
found_slot (Some s) w go = go s

-- the slot of a local, whether it is Uninit or not
abbrev pub with_slot : Frame → World → ℕ → (Slot → Turn) → Turn
with_slot f w l go = found_slot (slice_get f.locals l) w go

-- Uninit counts as Null
abbrev pub or_null : Slot → Cell
or_null slots.Uninit = cells.Null
or_null (slots.Cell c) = c

-- the object that the frame was called on
abbrev pub with_this : Option ℕ → World → (ℕ → Turn) → Turn
with_this None w go = refuses (codes "no this") w
with_this (Some n) w go = go n
