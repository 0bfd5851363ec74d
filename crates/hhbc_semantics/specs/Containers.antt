-- Codes that make containers and add to them.
use Rattle.std.specs.Prelude.{ℕ, List, [], ◌∷◌, ◌++◌, Option, Some, None, codes}
use Rattle.hack_values.specs.declared.cell.Cell.{Cell}
use Rattle.hack_values.specs.declared.cell.Cell.TheVariants as cells
use Rattle.hack_values.specs.declared.cell.Slot.{Slot}
use Rattle.hack_values.specs.declared.cell.Slot.TheVariants as slots
use Rattle.hack_values.specs.declared.key.Key.{Key}
use Rattle.hack_values.specs.declared.key.Key.TheVariants as keys
use Rattle.hack_values.specs.Keys.{keys_put, put_entry, with_key}
use Rattle.hack_values.specs.View.{val_of, vals_of}
use Rattle.hhbc_semantics.specs.Frames.{World, Frame, Turn, Goes, ahead, push}
use Rattle.hhbc_semantics.specs.Exceptions.{refuses}
use Rattle.hhbc_semantics.specs.Operands.{with_cell, with_cells}
use Rattle.hhbc_semantics.specs.Limits.{within_limits}

-- a cell as a key: an int or a string
abbrev pub key_of : Cell → Option Key
key_of (cells.Int i) = Some (keys.Int i)
key_of (cells.Str s) = Some (keys.Str s)
key_of _ = None

-- a key as a cell
abbrev pub cell_of_key : Key → Cell
cell_of_key (keys.Int i) = cells.Int i
cell_of_key (keys.Str s) = cells.Str s

abbrev pub with_first : Option Key → Option (List Key) → Option (List Key)
with_first None more = None
with_first (Some k) None = None
with_first (Some k) (Some ks) = Some (k ∷ ks)

-- all of them as keys, where all are
abbrev pub keys_of : List Cell → Option (List Key)
keys_of [] = Some []
keys_of (c ∷ cs) = with_first (key_of c) (keys_of cs)

-- the container, within its limits, in place of what was taken off the stack
abbrev pub made : Cell → Frame → List Slot → World → Turn
made c f rest w = within_limits c w (Goes (ahead f (slots.Cell c ∷ rest)) w)

-- a vec of so many cells, the deepest first
abbrev pub new_vec : ℕ → Frame → World → Turn
new_vec n f w = with_cells n [] f.stack w (λ cs rest. made (cells.Vec (vals_of cs)) f rest w)

abbrev pub new_dict : Frame → World → Turn
new_dict f w = Goes (push f (cells.Dict [])) w

abbrev pub with_key_or : {X : Type 0} → Option X → World → (X → Turn) → Turn
with_key_or None w go = refuses (codes "bad key") w
with_key_or (Some x) w go = go x

abbrev pub new_keyset : ℕ → Frame → World → Turn
new_keyset n f w =
    with_cells n [] f.stack w (λ cs rest. with_key_or (keys_of cs) w (λ ks. made (cells.Keyset (keys_put ks)) f rest w))

-- an entry in a dict; a key that is there keeps its place
abbrev pub add_entry : Cell → Cell → Cell → Frame → List Slot → World → Turn
add_entry (cells.Dict es) key value f rest w =
    with_key_or (key_of key) w (λ k. made (cells.Dict (put_entry es k (val_of value))) f rest w)
add_entry _ key value f rest w = refuses (codes "not a container") w

-- the dict below the key, which is below the value
abbrev pub add_element : Frame → World → Turn
add_element f w =
    with_cell f.stack w (λ value rest. with_cell rest w (λ key more. with_cell more w
    (λ dict below. add_entry dict key value f below w)))

-- an element of a vec goes last, as a new one of a keyset does; a dict takes no element without a key
abbrev pub append_to : Cell → Cell → Frame → List Slot → World → Turn
append_to (cells.Vec vs) value f rest w = made (cells.Vec (vs ++ val_of value ∷ [])) f rest w
append_to (cells.Keyset ks) value f rest w = with_key_or (key_of value) w (λ k. made (cells.Keyset (with_key ks k)) f rest w)
append_to (cells.Dict es) value f rest w = refuses (codes "bad key") w
append_to _ value f rest w = refuses (codes "not a container") w

-- the container below the value
abbrev pub add_new_element : Frame → World → Turn
add_new_element f w =
    with_cell f.stack w (λ value rest. with_cell rest w (λ container below. append_to container value f below w))
