-- Reading along a path.
use Rattle.std.specs.Prelude.{ℕ, pos, negsuc, ℤ, Bool, true, false, List, [], ◌∷◌, Option, Some, None, Result, Ok, Err, slice_get}
use Rattle.std.specs.Map.{keys_of, values_of}
use Rattle.hack_values.specs.declared.key.Key.{Key}
use Rattle.hack_values.specs.declared.key.Key.TheVariants as elements
use Rattle.hack_values.specs.declared.cell.Cell.{Cell}
use Rattle.hack_values.specs.declared.cell.Cell.TheVariants as cells
use Rattle.hack_values.specs.declared.heap.Object.{Object}
use Rattle.hack_values.specs.Val.{Val}
use Rattle.hack_values.specs.View.{item_of}
use Rattle.hack_values.specs.Keys.{has_key, place}
use Rattle.type_lattice.specs.Member.{Heap}
use Rattle.hhbc_repo.specs.Linked.{Linked}
use Rattle.hhbc_repo.specs.Places.{place_of}
use Rattle.hhbc_semantics.specs.PathKeys.{PathKey, Elem, BadElem, Prop, BadProp, Nullsafe, Append, key_cell}

-- why a step finds nothing
pub data Miss : Type 0 where
  Missing : Miss
  NotContainer : Miss
  BadKey : Miss

-- what one step comes to: an element of a vec or the value of a dict's entry, each with its container and its place there; a
-- property, with its object and its place there; an element of a keyset; nothing, of null under a null-safe key; or a fault
pub data Step : Type 0 where
  Item : List Val → ℕ → Cell → Step
  Entry : List (Key × Val) → ℕ → Cell → Step
  Property : ℕ → ℕ → Cell → Step
  Element : Key → Step
  Nothing : Step
  Faulty : Miss → Step

abbrev pub item_at : List Val → ℕ → Option Cell → Step
item_at items at None = Faulty Missing
item_at items at (Some c) = Item items at c

abbrev pub number_step : List Val → ℤ → Step
number_step items (pos n) = item_at items n (item_of items n)
number_step items (negsuc n) = Faulty Missing

abbrev pub vec_step : List Val → Key → Step
vec_step items (elements.Int i) = number_step items i
vec_step items (elements.Str s) = Faulty BadKey

abbrev pub entry_at : List (Key × Val) → ℕ → Option Cell → Step
entry_at entries at None = Faulty Missing
entry_at entries at (Some c) = Entry entries at c

abbrev pub dict_step : List (Key × Val) → Option ℕ → Step
dict_step entries None = Faulty Missing
dict_step entries (Some at) = entry_at entries at (item_of (values_of entries) at)

abbrev pub keyset_step : Bool → Key → Step
keyset_step true k = Element k
keyset_step false k = Faulty Missing

-- one step by the key of an element
abbrev pub elem_step : Cell → Key → Step
elem_step (cells.Vec items) k = vec_step items k
elem_step (cells.Dict entries) k = dict_step entries (place k (keys_of entries))
elem_step (cells.Keyset keys) k = keyset_step (has_key k keys) k
elem_step _ k = Faulty NotContainer

-- by a bad one, and by the place behind the last element, which no reading finds
abbrev pub bad_elem_step : Cell → Step
bad_elem_step (cells.Vec items) = Faulty BadKey
bad_elem_step (cells.Dict entries) = Faulty BadKey
bad_elem_step (cells.Keyset keys) = Faulty BadKey
bad_elem_step _ = Faulty NotContainer

-- a number that is no object's is no container
abbrev pub bad_object_step : Option Object → Step
bad_object_step None = Faulty NotContainer
bad_object_step (Some o) = Faulty BadKey

-- by a bad key of a property
abbrev pub bad_prop_step : Heap → Cell → Step
bad_prop_step heap (cells.Obj n) = bad_object_step (slice_get heap n)
bad_prop_step heap _ = Faulty NotContainer

abbrev pub value_at : ℕ → ℕ → Option Cell → Step
value_at n i None = Faulty Missing
value_at n i (Some c) = Property n i c

abbrev pub place_step : ℕ → Object → Option ℕ → Step
place_step n o None = Faulty Missing
place_step n o (Some i) = value_at n i (slice_get o.props i)

abbrev pub object_step : Linked → ℕ → Option Object → List ℕ → Step
object_step r n None name = Faulty NotContainer
object_step r n (Some o) name = place_step n o (place_of r o.class name)

-- by the name of a property
abbrev pub prop_step : Linked → Heap → Cell → List ℕ → Step
prop_step r heap (cells.Obj n) name = object_step r n (slice_get heap n) name
prop_step r heap _ name = Faulty NotContainer

abbrev pub nullsafe_step : Linked → Heap → Cell → List ℕ → Step
nullsafe_step r heap cells.Null name = Nothing
nullsafe_step r heap c name = prop_step r heap c name

abbrev pub step : Linked → Heap → Cell → PathKey → Step
step r heap c (Elem k) = elem_step c k
step r heap c BadElem = bad_elem_step c
step r heap c (Prop name) = prop_step r heap c name
step r heap c BadProp = bad_prop_step heap c
step r heap c (Nullsafe name) = nullsafe_step r heap c name
step r heap c Append = bad_elem_step c

abbrev pub read_on : Step → (Cell → Result Cell Miss) → Result Cell Miss
read_on (Item items at c) more = more c
read_on (Entry entries at c) more = more c
read_on (Property n i c) more = more c
read_on (Element k) more = more (key_cell k)
read_on Nothing more = more cells.Null
read_on (Faulty m) more = Err m

-- what stands at the end of the keys, or the fault of the first step that has one
abbrev pub get : Linked → Heap → Cell → List PathKey → Result Cell Miss
get r heap c [] = Ok c
get r heap c (k ∷ ks) = read_on (step r heap c k) (λ d. get r heap d ks)
