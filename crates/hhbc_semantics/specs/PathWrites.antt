-- Writing along a path, in one pass: each step is read, and what is changed behind it is put in its place.
use Rattle.std.specs.Prelude.{ℕ, nat_lt, List, [], ◌∷◌, ◌++◌, Option, Some, None, slice_get, slice_set, if◌then◌else◌}
use Rattle.hack_values.specs.declared.key.Key.{Key}
use Rattle.hack_values.specs.declared.key.Key.TheVariants as elements
use Rattle.hack_values.specs.declared.cell.Cell.{Cell}
use Rattle.hack_values.specs.declared.cell.Cell.TheVariants as cells
use Rattle.hack_values.specs.declared.heap.Object.{Object}
use Rattle.hack_values.specs.Val.{Val, weight, depth}
use Rattle.hack_values.specs.View.{val_of}
use Rattle.hack_values.specs.Keys.{put_entry, set_value, remove_entry, with_key, remove_key}
use Rattle.hack_values.specs.Limits.{max_weight, max_depth}
use Rattle.type_lattice.specs.Member.{Heap}
use Rattle.hhbc_repo.specs.Linked.{Linked}
use Rattle.hhbc_semantics.specs.PathKeys.{PathKey, Elem, BadElem, Prop, BadProp, Nullsafe, Append}
use Rattle.hhbc_semantics.specs.PathReads.{Miss, NotContainer, BadKey, Step, Item, Entry, Property, Element, Nothing, Faulty, vec_step, bad_elem_step, bad_prop_step, prop_step, nullsafe_step, step}

-- what is done at the last key
pub data Change : Type 0 where
  Sets : Cell → Change
  Unsets : Change

pub data WriteFault : Type 0 where
  Missed : Miss → WriteFault
  TooLarge : WriteFault
  TooDeep : WriteFault

-- what a write comes to: another base; or, where an object was passed, another cell as a property of that object, and the base as
-- it was; or nothing is changed
pub data Wrote : Type 0 where
  Base : Cell → Wrote
  Under : ℕ → ℕ → Cell → Wrote
  Refused : WriteFault → Wrote

abbrev pub misses : Miss → Wrote
misses m = Refused (Missed m)

-- ---- the last step of setting

-- in a vec, where the step finds an element
abbrev pub set_item : Step → Cell → Wrote
set_item (Item items at c) v = Base (cells.Vec (slice_set items at (val_of v)))
set_item (Entry entries at c) v = misses NotContainer
set_item (Property n i c) v = misses NotContainer
set_item (Element k) v = misses NotContainer
set_item Nothing v = misses NotContainer
set_item (Faulty m) v = misses m

abbrev pub set_elem : Cell → Key → Cell → Wrote
set_elem (cells.Vec items) k v = set_item (vec_step items k) v
set_elem (cells.Dict entries) k v = Base (cells.Dict (put_entry entries k (val_of v)))
set_elem _ k v = misses NotContainer

abbrev pub set_bad_elem : Cell → Wrote
set_bad_elem (cells.Vec items) = misses BadKey
set_bad_elem (cells.Dict entries) = misses BadKey
set_bad_elem _ = misses NotContainer

-- in an object, where the step finds a property
abbrev pub set_prop : Step → Cell → Wrote
set_prop (Item items at c) v = misses NotContainer
set_prop (Entry entries at c) v = misses NotContainer
set_prop (Property n i c) v = Under n i v
set_prop (Element k) v = misses NotContainer
set_prop Nothing v = misses NotContainer
set_prop (Faulty m) v = misses m

abbrev pub add_key : List Key → Cell → Wrote
add_key keys (cells.Int i) = Base (cells.Keyset (with_key keys (elements.Int i)))
add_key keys (cells.Str s) = Base (cells.Keyset (with_key keys (elements.Str s)))
add_key keys _ = misses BadKey

abbrev pub append : Cell → Cell → Wrote
append (cells.Vec items) v = Base (cells.Vec (items ++ val_of v ∷ []))
append (cells.Dict entries) v = misses BadKey
append (cells.Keyset keys) v = add_key keys v
append _ v = misses NotContainer

-- a fault is that of reading
abbrev pub fails_as : Step → Wrote
fails_as (Item items at c) = misses NotContainer
fails_as (Entry entries at c) = misses NotContainer
fails_as (Property n i c) = misses NotContainer
fails_as (Element k) = misses NotContainer
fails_as Nothing = misses NotContainer
fails_as (Faulty m) = misses m

abbrev pub set_last : Linked → Heap → Cell → PathKey → Cell → Wrote
set_last r heap c (Elem k) v = set_elem c k v
set_last r heap c BadElem v = set_bad_elem c
set_last r heap c (Prop name) v = set_prop (prop_step r heap c name) v
set_last r heap c BadProp v = fails_as (bad_prop_step heap c)
set_last r heap c (Nullsafe name) v = set_prop (nullsafe_step r heap c name) v
set_last r heap c Append v = append c v

-- ---- the last step of unsetting

abbrev pub unset_elem : Cell → Key → Wrote
unset_elem (cells.Vec items) k = misses BadKey
unset_elem (cells.Dict entries) k = Base (cells.Dict (remove_entry k entries))
unset_elem (cells.Keyset keys) k = Base (cells.Keyset (remove_key k keys))
unset_elem _ k = misses NotContainer

-- a property that the class declares is never unset
abbrev pub unset_prop : Step → Wrote
unset_prop (Item items at c) = misses NotContainer
unset_prop (Entry entries at c) = misses NotContainer
unset_prop (Property n i c) = misses BadKey
unset_prop (Element k) = misses NotContainer
unset_prop Nothing = misses NotContainer
unset_prop (Faulty m) = misses m

abbrev pub unset_last : Linked → Heap → Cell → PathKey → Wrote
unset_last r heap c (Elem k) = unset_elem c k
unset_last r heap c BadElem = fails_as (bad_elem_step c)
unset_last r heap c (Prop name) = unset_prop (prop_step r heap c name)
unset_last r heap c BadProp = fails_as (bad_prop_step heap c)
unset_last r heap c (Nullsafe name) = unset_prop (nullsafe_step r heap c name)
unset_last r heap c Append = fails_as (bad_elem_step c)

abbrev pub last_step : Linked → Heap → Change → Cell → PathKey → Wrote
last_step r heap (Sets v) c k = set_last r heap c k v
last_step r heap Unsets c k = unset_last r heap c k

-- ---- limits

-- where the container that is built anew keeps the limits: that of weight first, then that of depth
abbrev pub within : Cell → Wrote → Wrote
within c wrote =
    if nat_lt max_weight (weight (val_of c)) then Refused TooLarge
    else if nat_lt max_depth (depth (val_of c)) then Refused TooDeep
    else wrote

-- ---- the steps before it

abbrev pub in_item : List Val → ℕ → Wrote → Wrote
in_item items at (Base c) = Base (cells.Vec (slice_set items at (val_of c)))
in_item items at (Under n i c) = Under n i c
in_item items at (Refused fault) = Refused fault

abbrev pub in_entry : List (Key × Val) → ℕ → Wrote → Wrote
in_entry entries at (Base c) = Base (cells.Dict (set_value entries at (val_of c)))
in_entry entries at (Under n i c) = Under n i c
in_entry entries at (Refused fault) = Refused fault

-- the write begins in the property, and not further up
abbrev pub in_property : ℕ → ℕ → Wrote → Wrote
in_property n i (Base c) = within c (Under n i c)
in_property n i (Under m j c) = Under m j c
in_property n i (Refused fault) = Refused fault

-- no element of a keyset is written
abbrev pub write_on : Step → (Cell → Wrote) → Wrote
write_on (Item items at c) more = in_item items at (more c)
write_on (Entry entries at c) more = in_entry entries at (more c)
write_on (Property n i c) more = in_property n i (more c)
write_on (Element k) more = misses NotContainer
write_on Nothing more = misses NotContainer
write_on (Faulty m) more = misses m

-- the containers along the keys built anew, from the last object on that is passed
abbrev pub rebuilt : Linked → Heap → Change → Cell → PathKey → List PathKey → Wrote
rebuilt r heap change c k [] = last_step r heap change c k
rebuilt r heap change c k (l ∷ rest) = write_on (step r heap c k) (λ d. rebuilt r heap change d l rest)

abbrev pub in_base : Wrote → Wrote
in_base (Base c) = within c (Base c)
in_base (Under n i c) = Under n i c
in_base (Refused fault) = Refused fault

-- with no key the base itself is set, and nothing can be unset
abbrev pub change_base : Change → Wrote
change_base (Sets v) = Base v
change_base Unsets = misses NotContainer

abbrev pub write : Linked → Heap → Change → Cell → List PathKey → Wrote
write r heap change c [] = change_base change
write r heap change c (k ∷ ks) = in_base (rebuilt r heap change c k ks)

-- ---- what a write leaves of the heap

abbrev pub with_property : Object → ℕ → Cell → Object
with_property o i c = record o { props = slice_set o.props i c }

abbrev pub set_property_of : Heap → ℕ → ℕ → Cell → Option Object → Heap
set_property_of heap n i c None = heap
set_property_of heap n i c (Some o) = slice_set heap n (with_property o i c)

-- the heap with another cell as a property of an object
abbrev pub set_property : Heap → ℕ → ℕ → Cell → Heap
set_property heap n i c = set_property_of heap n i c (slice_get heap n)

-- the base and the heap behind a write
abbrev pub base_after : Cell → Wrote → Cell
base_after base (Base c) = c
base_after base (Under n i c) = base
base_after base (Refused fault) = base

abbrev pub heap_after : Heap → Wrote → Heap
heap_after heap (Base c) = heap
heap_after heap (Under n i c) = set_property heap n i c
heap_after heap (Refused fault) = heap
