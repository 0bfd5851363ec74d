-- Iterators over the elements of containers.
use Rattle.std.specs.Prelude.{ℕ, suc, pos, List, [], ◌∷◌, map, Option, Some, None, slice_get, slice_set, codes}
use Rattle.hack_values.specs.declared.cell.Cell.{Cell}
use Rattle.hack_values.specs.declared.cell.Cell.TheVariants as cells
use Rattle.hack_values.specs.declared.cell.Slot.{Slot}
use Rattle.hack_values.specs.declared.cell.Slot.TheVariants as slots
use Rattle.hack_values.specs.declared.key.Key.{Key}
use Rattle.hack_values.specs.Val.{Val}
use Rattle.hack_values.specs.View.{cell_of}
use Rattle.hhbc_semantics.specs.Outcome.{WrongIterator}
use Rattle.hhbc_semantics.specs.Frames.{World, Frame, Turn, Goes, Ends, Sticks, ahead, set_local}
use Rattle.hhbc_semantics.specs.Exceptions.{refuses}
use Rattle.hhbc_semantics.specs.Operands.{with_cell}
use Rattle.hhbc_semantics.specs.Branches.{jump}
use Rattle.hhbc_semantics.specs.Containers.{cell_of_key}

-- the elements of a vec with their places, from this one on
abbrev pub numbered : ℕ → List Val → List (Cell × Cell)
numbered n [] = []
numbered n (v ∷ vs) = (cells.Int (pos n), cell_of v) ∷ numbered (suc n) vs

-- the keys and elements of a container; those of a keyset are both
abbrev pub elements_of : Cell → Option (List (Cell × Cell))
elements_of (cells.Vec vs) = Some (numbered 0 vs)
elements_of (cells.Dict es) = Some (map (λ (e : Key × Val). (cell_of_key e.0, cell_of e.1)) es)
elements_of (cells.Keyset ks) = Some (map (λ k. (cell_of_key k, cell_of_key k)) ks)
elements_of _ = None

abbrev pub set_iter : Frame → ℕ → Option (List (Cell × Cell)) → Frame
set_iter f i it = record f { iters = slice_set f.iters i it }

abbrev pub set_key : Frame → Option ℕ → Cell → Frame
set_key f None key = f
set_key f (Some k) key = set_local f k (slots.Cell key)

-- the frame with an element in its locals, the value's first, and those that follow still to come
abbrev pub at_element : Frame → ℕ → Option ℕ × ℕ → Cell × Cell → List (Cell × Cell) → Frame
at_element f i ls e more = set_key (set_local (set_iter f i (Some more)) ls.1 (slots.Cell e.1)) ls.0 e.0

-- an iterator that isn't live
abbrev pub with_dead : Option (Option (List (Cell × Cell))) → World → Turn → Turn
with_dead None w turn = Ends (Sticks WrongIterator) w
with_dead (Some (Some es)) w turn = Ends (Sticks WrongIterator) w
with_dead (Some None) w turn = turn

-- one that is, with the elements that follow
abbrev pub with_live : Option (Option (List (Cell × Cell))) → World → (List (Cell × Cell) → Turn) → Turn
with_live None w go = Ends (Sticks WrongIterator) w
with_live (Some None) w go = Ends (Sticks WrongIterator) w
with_live (Some (Some es)) w go = go es

-- it begins at the first element, or goes to the label where there is none
abbrev pub begin : Option (List (Cell × Cell)) → ℕ → Option ℕ × ℕ → ℕ → Frame → List Slot → World → Turn
begin None i ls q f rest w = refuses (codes "bad operand") w
begin (Some []) i ls q f rest w = Goes (jump f q rest) w
begin (Some (e ∷ more)) i ls q f rest w = Goes (ahead (at_element f i ls e more) rest) w

abbrev pub iter_init : ℕ → Option ℕ × ℕ → ℕ → Frame → World → Turn
iter_init i ls q f w =
    with_cell f.stack w (λ c rest. with_dead (slice_get f.iters i) w (begin (elements_of c) i ls q f rest w))

-- it takes its next element and goes to the label, or ends where there is none
abbrev pub advance : List (Cell × Cell) → ℕ → Option ℕ × ℕ → ℕ → Frame → World → Turn
advance [] i ls q f w = Goes (ahead (set_iter f i None) f.stack) w
advance (e ∷ more) i ls q f w = Goes (jump (at_element f i ls e more) q f.stack) w

abbrev pub iter_next : ℕ → Option ℕ × ℕ → ℕ → Frame → World → Turn
iter_next i ls q f w = with_live (slice_get f.iters i) w (λ es. advance es i ls q f w)

abbrev pub iter_free : ℕ → Frame → World → Turn
iter_free i f w = with_live (slice_get f.iters i) w (λ es. Goes (ahead (set_iter f i None) f.stack) w)
