-- A write in one pass is one in two phases, and leaves all objects in the heap with their classes.
use Rattle.std.proofs.Common.{◌≡◌, ℕ, zero, suc, refl, ap, sym, ◌∙◌, Bool, true, false, Option, Some, None, List, [], ◌∷◌, Result, Ok, Err, slice_get, slice_set, if◌then◌else◌, nat_lt}
use Rattle.hack_values.specs.Val.{Val, weight, depth}
use Rattle.hack_values.specs.View.{val_of}
use Rattle.hack_values.specs.Limits.{max_weight, max_depth}
use Rattle.hack_values.specs.declared.key.Key.{Key}
use Rattle.hack_values.specs.declared.key.Key.TheVariants as elements
use Rattle.hack_values.specs.declared.cell.Cell.{Cell}
use Rattle.hack_values.specs.declared.cell.Cell.TheVariants as cells
use Rattle.hack_values.specs.declared.heap.Object.{Object}
use Rattle.type_lattice.specs.Member.{Heap, class_at}
use Rattle.hhbc_repo.specs.Linked.{Linked}
use Rattle.hhbc_semantics.specs.Growth.{HeapGrows}
use Rattle.hhbc_semantics.specs.PathKeys.{PathKey, Elem, BadElem, Prop, BadProp, Nullsafe, Append, key_cell}
use Rattle.hhbc_semantics.specs.PathReads.{Miss, NotContainer, Step, Item, Entry, Property, Element, Nothing, Faulty, step}
use Rattle.hhbc_semantics.specs.PathWrites.{Change, Wrote, Base, Under, Refused, TooLarge, TooDeep, misses, in_item, in_entry, in_property, in_base, write_on, rebuilt, write, with_property, set_property, set_property_of, heap_after}
use Rattle.hhbc_semantics.specs.PathPhases.{Start, or_here, pass, last_passed, rebuild_on, rebuild, write_from, WritesInPhases, WritesKeepObjects}

-- ---- where a write has begun, what is further up stays

abbrev pub settled : Wrote → Bool
settled (Base c) = false
settled (Under n i c) = true
settled (Refused fault) = true

settled_tests : (large deep : Bool) (w : Wrote) → settled w ≡ true
    → settled (if large then Refused TooLarge else if deep then Refused TooDeep else w) ≡ true
settled_tests true deep w e = refl
settled_tests false true w e = refl
settled_tests false false w e = e

pub settled_property : (n i : ℕ) (w : Wrote) → settled (in_property n i w) ≡ true
settled_property n i (Base c) = settled_tests (nat_lt max_weight (weight (val_of c))) (nat_lt max_depth (depth (val_of c))) (Under n i c) refl
settled_property n i (Under m j c) = refl
settled_property n i (Refused fault) = refl

item_settled : (items : List Val) (at : ℕ) (w : Wrote) → settled w ≡ true → in_item items at w ≡ w
item_settled items at (Base c) e = absurd (cc)
item_settled items at (Under n i c) e = refl
item_settled items at (Refused fault) e = refl

entry_settled : (entries : List (Key × Val)) (at : ℕ) (w : Wrote) → settled w ≡ true → in_entry entries at w ≡ w
entry_settled entries at (Base c) e = absurd (cc)
entry_settled entries at (Under n i c) e = refl
entry_settled entries at (Refused fault) e = refl

property_settled : (n i : ℕ) (w : Wrote) → settled w ≡ true → in_property n i w ≡ w
property_settled n i (Base c) e = absurd (cc)
property_settled n i (Under m j c) e = refl
property_settled n i (Refused fault) e = refl

base_settled : (w : Wrote) → settled w ≡ true → in_base w ≡ w
base_settled (Base c) e = absurd (cc)
base_settled (Under m j c) e = refl
base_settled (Refused fault) e = refl

module _ (r : Linked) (heap : Heap) (change : Change) where
  begun_item : (items : List Val) (at : ℕ) (o : Result (Option Start) Miss) (w : Wrote)
      → in_item items at (write_from r heap change o w) ≡ write_from r heap change o (in_item items at w)
  begun_item items at (Ok None) w = refl
  begun_item items at (Ok (Some p)) w = item_settled items at _ (settled_property p.object p.place (rebuild r heap change p.holds p.key p.rest))
  begun_item items at (Err m) w = refl

  begun_entry : (entries : List (Key × Val)) (at : ℕ) (o : Result (Option Start) Miss) (w : Wrote)
      → in_entry entries at (write_from r heap change o w) ≡ write_from r heap change o (in_entry entries at w)
  begun_entry entries at (Ok None) w = refl
  begun_entry entries at (Ok (Some p)) w = entry_settled entries at _ (settled_property p.object p.place (rebuild r heap change p.holds p.key p.rest))
  begun_entry entries at (Err m) w = refl

  begun_base : (o : Result (Option Start) Miss) (w : Wrote) → in_base (write_from r heap change o w) ≡ write_from r heap change o (in_base w)
  begun_base (Ok None) w = refl
  begun_base (Ok (Some p)) w = base_settled _ (settled_property p.object p.place (rebuild r heap change p.holds p.key p.rest))
  begun_base (Err m) w = refl

  begun_property : (n i : ℕ) (c : Cell) (k : PathKey) (ks : List PathKey) (o : Result (Option Start) Miss)
      → in_property n i (write_from r heap change o (rebuild r heap change c k ks))
      ≡ write_from r heap change (or_here (record { object = n; place = i; holds = c; key = k; rest = ks }) o) (misses NotContainer)
  begun_property n i c k ks (Ok None) = refl
  begun_property n i c k ks (Ok (Some p)) = property_settled n i _ (settled_property p.object p.place (rebuild r heap change p.holds p.key p.rest))
  begun_property n i c k ks (Err m) = refl

  -- ---- behind an element of a keyset, and behind nothing, each key finds no container

  no_step : (e : Key) (k : PathKey) → step r heap (key_cell e) k ≡ Faulty NotContainer
  no_step (elements.Int i) (Elem k) = refl
  no_step (elements.Int i) BadElem = refl
  no_step (elements.Int i) (Prop name) = refl
  no_step (elements.Int i) BadProp = refl
  no_step (elements.Int i) (Nullsafe name) = refl
  no_step (elements.Int i) Append = refl
  no_step (elements.Str s) (Elem k) = refl
  no_step (elements.Str s) BadElem = refl
  no_step (elements.Str s) (Prop name) = refl
  no_step (elements.Str s) BadProp = refl
  no_step (elements.Str s) (Nullsafe name) = refl
  no_step (elements.Str s) Append = refl

  behind_element : (e : Key) (k : PathKey) (ks : List PathKey) → misses NotContainer ≡ write_from r heap change (last_passed r heap (key_cell e) k ks) (misses NotContainer)
  behind_element e k [] = refl
  behind_element e k (l ∷ rest) = rw (no_step e k) refl

  behind_nothing : (k : PathKey) (ks : List PathKey) → misses NotContainer ≡ write_from r heap change (last_passed r heap cells.Null k ks) (misses NotContainer)
  behind_nothing k [] = refl
  behind_nothing (Elem e) (l ∷ rest) = refl
  behind_nothing BadElem (l ∷ rest) = refl
  behind_nothing (Prop name) (l ∷ rest) = refl
  behind_nothing BadProp (l ∷ rest) = refl
  behind_nothing (Nullsafe name) (l ∷ rest) = behind_nothing l rest
  behind_nothing Append (l ∷ rest) = refl

  -- ---- one step, and all

  one_step : (s : Step) (l : PathKey) (rest : List PathKey)
      → ((d : Cell) → rebuilt r heap change d l rest ≡ write_from r heap change (last_passed r heap d l rest) (rebuild r heap change d l rest))
      → write_on s (λ d. rebuilt r heap change d l rest)
      ≡ write_from r heap change (pass s l rest (λ d. last_passed r heap d l rest)) (rebuild_on s (λ d. rebuild r heap change d l rest))
  one_step (Item items at c) l rest h = ap (in_item items at) (h c) ∙ begun_item items at (last_passed r heap c l rest) (rebuild r heap change c l rest)
  one_step (Entry entries at c) l rest h = ap (in_entry entries at) (h c) ∙ begun_entry entries at (last_passed r heap c l rest) (rebuild r heap change c l rest)
  one_step (Property n i c) l rest h = ap (in_property n i) (h c) ∙ begun_property n i c l rest (last_passed r heap c l rest)
  one_step (Element e) l rest h = behind_element e l rest
  one_step Nothing l rest h = behind_nothing l rest
  one_step (Faulty m) l rest h = refl

  pub rebuilt_from : (c : Cell) (k : PathKey) (ks : List PathKey)
      → rebuilt r heap change c k ks ≡ write_from r heap change (last_passed r heap c k ks) (rebuild r heap change c k ks)
  rebuilt_from c k [] = refl
  rebuilt_from c k (l ∷ rest) = one_step (step r heap c k) l rest (λ d. rebuilt_from d l rest)

pub writes_in_phases : WritesInPhases
writes_in_phases r heap change c [] = refl
writes_in_phases r heap change c (k ∷ ks) =
    ap in_base (rebuilt_from r heap change c k ks) ∙ begun_base r heap change (last_passed r heap c k ks) (rebuild r heap change c k ks)

-- ---- objects stay

set_keeps_class : (heap : Heap) (n : ℕ) (o : Object) (i : ℕ) (c : Cell) (m : ℕ) → slice_get heap n ≡ Some o
    → class_at (slice_set heap n (with_property o i c)) m ≡ class_at heap m
set_keeps_class [] n o i c m e = refl
set_keeps_class (x ∷ heap) zero o i c zero e = let same : x ≡ o = cc in ap (λ y. Some y.class) (sym same)
set_keeps_class (x ∷ heap) zero o i c (suc m) e = refl
set_keeps_class (x ∷ heap) (suc n) o i c zero e = refl
set_keeps_class (x ∷ heap) (suc n) o i c (suc m) e = set_keeps_class heap n o i c m e

property_of_keeps : (heap : Heap) (n i : ℕ) (c : Cell) (m : ℕ) (o : Option Object) → slice_get heap n ≡ o
    → class_at (set_property_of heap n i c o) m ≡ class_at heap m
property_of_keeps heap n i c m None e = refl
property_of_keeps heap n i c m (Some o) e = set_keeps_class heap n o i c m e

pub set_property_keeps : (heap : Heap) (n i : ℕ) (c : Cell) (m : ℕ) → class_at (set_property heap n i c) m ≡ class_at heap m
set_property_keeps heap n i c m = property_of_keeps heap n i c m (slice_get heap n) refl

pub wrote_keeps : (heap : Heap) (w : Wrote) → HeapGrows heap (heap_after heap w)
wrote_keeps heap (Base c) n d e = e
wrote_keeps heap (Under m i c) n d e = set_property_keeps heap m i c n ∙ e
wrote_keeps heap (Refused fault) n d e = e

pub writes_keep_objects : WritesKeepObjects
writes_keep_objects r heap change c ks = wrote_keeps heap (write r heap change c ks)
