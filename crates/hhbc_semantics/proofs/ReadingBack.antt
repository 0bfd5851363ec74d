-- Reading finds what was put.
use Rattle.std.proofs.Common.{◌≡◌, ℕ, zero, suc, ◌<◌, refl, ap, sym, subst, ◌∙◌, Bool, true, false, cond, nat_lt, Option, Some, None, List, [], ◌∷◌, ◌++◌, Result, Ok, pos, negsuc, length, length-append, arith, slice_get, slice_set, if◌then◌else◌}
use Rattle.std.specs.List.{position_or_len}
use Rattle.std.specs.Map.{keys_of, values_of}
use Rattle.std.proofs.lemmas.List.Quantifiers.{position-Some}
use Rattle.hack_values.specs.Val.{Val, weight, depth}
use Rattle.hack_values.specs.View.{val_of, item_of, cell-val}
use Rattle.hack_values.specs.Keys.{key_eq, has_key, place, set_value, put_at, put_entry}
use Rattle.hack_values.specs.Limits.{max_weight, max_depth}
use Rattle.hack_values.specs.declared.key.Key.{Key}
use Rattle.hack_values.specs.declared.key.Key.TheVariants as elements
use Rattle.hack_values.specs.declared.cell.Cell.{Cell}
use Rattle.hack_values.specs.declared.cell.Cell.TheVariants as cells
use Rattle.hack_values.specs.declared.heap.Object.{Object}
use Rattle.hack_values.proofs.KeyLaws.{key_eq-refl}
use Rattle.type_lattice.specs.Member.{Heap}
use Rattle.hhbc_repo.specs.Linked.{Linked}
use Rattle.hhbc_repo.specs.Places.{place_of}
use Rattle.hhbc_semantics.specs.PathKeys.{PathKey, Elem, BadElem, Prop, BadProp, Nullsafe, Append}
use Rattle.hhbc_semantics.specs.PathReads.{Miss, Step, Item, Entry, Property, Element, Nothing, Faulty, item_at, entry_at, dict_step, keyset_step, elem_step, bad_elem_step, bad_object_step, bad_prop_step, value_at, place_step, object_step, step, prop_step, nullsafe_step, read_on, get}
use Rattle.hhbc_semantics.specs.PathWrites.{Sets, Wrote, Base, Under, Refused, TooLarge, TooDeep, in_item, in_entry, in_property, in_base, set_item, set_elem, set_bad_elem, set_prop, fails_as, set_last, write_on, rebuilt}
use Rattle.hhbc_semantics.specs.PathPhases.{AppendsNothing, ReadsFindWrites}
use Rattle.hhbc_semantics.proofs.WritingLaws.{settled, settled_property}

-- ---- what is put at a place is found there

put_item : (items : List Val) (n : ℕ) (d v : Cell) → item_of items n ≡ Some d → item_of (slice_set items n (val_of v)) n ≡ Some v
put_item [] n d v e = absurd (cc)
put_item (x ∷ items) zero d v e = ap Some (cell-val v)
put_item (x ∷ items) (suc n) d v e = put_item items n d v e

put_value : (es : List (Key × Val)) (n : ℕ) (v : Cell) → n < length es → item_of (values_of (set_value es n (val_of v))) n ≡ Some v
put_value [] n v h = absurd (omega (arith, h))
put_value (e ∷ es) zero v h = ap Some (cell-val v)
put_value (e ∷ es) (suc n) v h = put_value es n v (omega (arith, h))

keys_stay : (es : List (Key × Val)) (n : ℕ) (x : Val) → keys_of (set_value es n x) ≡ keys_of es
keys_stay [] n x = refl
keys_stay (e ∷ es) zero x = refl
keys_stay (e ∷ es) (suc n) x = ap (λ ks. e.0 ∷ ks) (keys_stay es n x)

as_many : (es : List (Key × Val)) → length (keys_of es) ≡ length es
as_many [] = refl
as_many (e ∷ es) = ap suc (as_many es)

item_inside : (es : List (Key × Val)) (n : ℕ) (d : Cell) → item_of (values_of es) n ≡ Some d → n < length es
item_inside [] n d e = absurd (cc)
item_inside (x ∷ es) zero d e = omega arith
item_inside (x ∷ es) (suc n) d e = omega (arith, item_inside es n d e)

by_test : {P : Type 0} (b : Bool) → (b ≡ true → P) → (b ≡ false → P) → P
by_test true f g = f refl
by_test false f g = g refl

none_from : {X : Type 0} (b : Bool) (x : X) → cond b (Some x) None ≡ None → b ≡ false
none_from true x e = absurd (cc)
none_from false x e = refl

first_at_end : (k : Key) (ks : List Key) → nat_lt (position_or_len (key_eq k) ks) (length ks) ≡ false
    → position_or_len (key_eq k) (ks ++ k ∷ []) ≡ length ks
first_at_end k [] e = rw (key_eq-refl k) refl
first_at_end k (j ∷ ks) e = by_test (key_eq k j) (λ h. absurd (grind (arith, e, h))) (λ h. grind (arith, e, h, first_at_end k ks))

new_place : (k : Key) (ks : List Key) → place k ks ≡ None → place k (ks ++ k ∷ []) ≡ Some (length ks)
new_place k ks e =
    let at = first_at_end k ks (none_from (nat_lt (position_or_len (key_eq k) ks) (length ks)) (position_or_len (key_eq k) ks) e) in
    let long = length-append ks (k ∷ []) in
    grind (arith, at, long)

keys_behind : (es : List (Key × Val)) (k : Key) (x : Val) → keys_of (es ++ (k, x) ∷ []) ≡ keys_of es ++ k ∷ []
keys_behind [] k x = refl
keys_behind (e ∷ es) k x = ap (λ ks. e.0 ∷ ks) (keys_behind es k x)

value_behind : (es : List (Key × Val)) (k : Key) (v : Cell) → item_of (values_of (es ++ (k, val_of v) ∷ [])) (length (keys_of es)) ≡ Some v
value_behind [] k v = ap Some (cell-val v)
value_behind (e ∷ es) k v = value_behind es k v

-- the entry of a key, where it is read
finds : (es : List (Key × Val)) (k : Key) (at : ℕ) (v : Cell) → place k (keys_of es) ≡ Some at → item_of (values_of es) at ≡ Some v
    → dict_step es (place k (keys_of es)) ≡ Entry es at v
finds es k at v e h = rw (e, h) refl

put_place : (es : List (Key × Val)) (k : Key) (v : Cell) (o : Option ℕ) → place k (keys_of es) ≡ o
    → (at : ℕ) × (dict_step (put_at o es k (val_of v)) (place k (keys_of (put_at o es k (val_of v)))) ≡ Entry (put_at o es k (val_of v)) at v)
put_place es k v None e = (
  length (keys_of es),
  finds (es ++ (k, val_of v) ∷ []) k (length (keys_of es)) v
      (ap (λ ks. place k ks) (keys_behind es k (val_of v)) ∙ new_place k (keys_of es) e) (value_behind es k v),
)
put_place es k v (Some at) e =
    let inside = (position-Some (key_eq k) (keys_of es) at k e).0 in
    let long = as_many es in (
      at,
      finds (set_value es at (val_of v)) k at v
          (ap (λ ks. place k ks) (keys_stay es at (val_of v)) ∙ e) (put_value es at v (omega (arith, inside, long))),
    )

-- ---- along the keys

base_from : (large deep : Bool) (c e : Cell) → (if large then Refused TooLarge else if deep then Refused TooDeep else Base c) ≡ Base e → Base c ≡ Base e
base_from true deep c e h = absurd (cc)
base_from false true c e h = absurd (cc)
base_from false false c e h = h

in_base_is : (w : Wrote) (e : Cell) → in_base w ≡ Base e → w ≡ Base e
in_base_is (Base c) e h = base_from (nat_lt max_weight (weight (val_of c))) (nat_lt max_depth (depth (val_of c))) c e h
in_base_is (Under n i c) e h = absurd (cc)
in_base_is (Refused fault) e h = absurd (cc)

no_base : (w : Wrote) (e : Cell) → settled w ≡ true → w ≡ Base e → ⊥
no_base w e h q = let s = ap settled q in absurd (cc)

-- where a property is passed or set the base stays
no_property : (s : Step) (v e : Cell) → set_prop s v ≡ Base e → ⊥
no_property (Item items at c) v e h = cc
no_property (Entry entries at c) v e h = cc
no_property (Property n i c) v e h = cc
no_property (Element k) v e h = cc
no_property Nothing v e h = cc
no_property (Faulty m) v e h = cc

no_failure : (s : Step) (e : Cell) → fails_as s ≡ Base e → ⊥
no_failure (Item items at c) e h = cc
no_failure (Entry entries at c) e h = cc
no_failure (Property n i c) e h = cc
no_failure (Element k) e h = cc
no_failure Nothing e h = cc
no_failure (Faulty m) e h = cc

abbrev in_container : Step → Bool
in_container (Item items at c) = true
in_container (Entry entries at c) = true
in_container (Property n i c) = false
in_container (Element k) = false
in_container Nothing = false
in_container (Faulty m) = false

no_write : (s : Step) (more : Cell → Wrote) (e : Cell) → in_container s ≡ false → write_on s more ≡ Base e → ⊥
no_write (Item items at c) more e s h = cc
no_write (Entry entries at c) more e s h = cc
no_write (Property n i c) more e s h = no_base (in_property n i (more c)) e (settled_property n i (more c)) h
no_write (Element k) more e s h = cc
no_write Nothing more e s h = cc
no_write (Faulty m) more e s h = cc

value_outside : (n i : ℕ) (o : Option Cell) → in_container (value_at n i o) ≡ false
value_outside n i None = refl
value_outside n i (Some c) = refl

place_outside : (n : ℕ) (o : Object) (at : Option ℕ) → in_container (place_step n o at) ≡ false
place_outside n o None = refl
place_outside n o (Some i) = value_outside n i (slice_get o.props i)

object_outside : (r : Linked) (n : ℕ) (o : Option Object) (name : List ℕ) → in_container (object_step r n o name) ≡ false
object_outside r n None name = refl
object_outside r n (Some o) name = place_outside n o (place_of r o.class name)

prop_outside : (r : Linked) (heap : Heap) (c : Cell) (name : List ℕ) → in_container (prop_step r heap c name) ≡ false
prop_outside r heap cells.Null name = refl
prop_outside r heap (cells.Bool b) name = refl
prop_outside r heap (cells.Int i) name = refl
prop_outside r heap (cells.Str s) name = refl
prop_outside r heap (cells.Vec items) name = refl
prop_outside r heap (cells.Dict entries) name = refl
prop_outside r heap (cells.Keyset elements) name = refl
prop_outside r heap (cells.Obj n) name = object_outside r n (slice_get heap n) name

nullsafe_outside : (r : Linked) (heap : Heap) (c : Cell) (name : List ℕ) → in_container (nullsafe_step r heap c name) ≡ false
nullsafe_outside r heap cells.Null name = refl
nullsafe_outside r heap (cells.Bool b) name = refl
nullsafe_outside r heap (cells.Int i) name = refl
nullsafe_outside r heap (cells.Str s) name = refl
nullsafe_outside r heap (cells.Vec items) name = refl
nullsafe_outside r heap (cells.Dict entries) name = refl
nullsafe_outside r heap (cells.Keyset elements) name = refl
nullsafe_outside r heap (cells.Obj n) name = object_outside r n (slice_get heap n) name

bad_elem_outside : (c : Cell) → in_container (bad_elem_step c) ≡ false
bad_elem_outside cells.Null = refl
bad_elem_outside (cells.Bool b) = refl
bad_elem_outside (cells.Int i) = refl
bad_elem_outside (cells.Str s) = refl
bad_elem_outside (cells.Vec items) = refl
bad_elem_outside (cells.Dict entries) = refl
bad_elem_outside (cells.Keyset elements) = refl
bad_elem_outside (cells.Obj n) = refl

bad_object_outside : (o : Option Object) → in_container (bad_object_step o) ≡ false
bad_object_outside None = refl
bad_object_outside (Some o) = refl

bad_prop_outside : (heap : Heap) (c : Cell) → in_container (bad_prop_step heap c) ≡ false
bad_prop_outside heap cells.Null = refl
bad_prop_outside heap (cells.Bool b) = refl
bad_prop_outside heap (cells.Int i) = refl
bad_prop_outside heap (cells.Str s) = refl
bad_prop_outside heap (cells.Vec items) = refl
bad_prop_outside heap (cells.Dict entries) = refl
bad_prop_outside heap (cells.Keyset elements) = refl
bad_prop_outside heap (cells.Obj n) = bad_object_outside (slice_get heap n)

keyset_outside : (b : Bool) (k : Key) → in_container (keyset_step b k) ≡ false
keyset_outside true k = refl
keyset_outside false k = refl

no_bad_elem : (c e : Cell) → set_bad_elem c ≡ Base e → ⊥
no_bad_elem cells.Null e h = cc
no_bad_elem (cells.Bool b) e h = cc
no_bad_elem (cells.Int i) e h = cc
no_bad_elem (cells.Str s) e h = cc
no_bad_elem (cells.Vec items) e h = cc
no_bad_elem (cells.Dict entries) e h = cc
no_bad_elem (cells.Keyset elements) e h = cc
no_bad_elem (cells.Obj n) e h = cc

module _ (r : Linked) (heap : Heap) (v : Cell) where
  abbrev Reads : Cell → PathKey → (Cell → Result Cell Miss) → Type 0
  Reads e k more = read_on (step r heap e k) more ≡ Ok v

  -- ---- the last key

  vec_last : (items : List Val) (n : ℕ) (e : Cell) (o : Option Cell) → item_of items n ≡ o → set_item (item_at items n o) v ≡ Base e
      → Reads e (Elem (elements.Int (pos n))) (λ d. Ok d)
  vec_last items n e None q h = absurd (cc)
  vec_last items n e (Some d) q h =
      let same : cells.Vec (slice_set items n (val_of v)) ≡ e = cc in
      subst (λ e. Reads e (Elem (elements.Int (pos n))) (λ d. Ok d)) same (rw (put_item items n d v q) refl)

  elem_last : (c : Cell) (k : Key) (e : Cell) → set_elem c k v ≡ Base e → Reads e (Elem k) (λ d. Ok d)
  elem_last (cells.Vec items) (elements.Int (pos n)) e h = vec_last items n e (item_of items n) refl h
  elem_last (cells.Vec items) (elements.Int (negsuc n)) e h = absurd (cc)
  elem_last (cells.Vec items) (elements.Str s) e h = absurd (cc)
  elem_last (cells.Dict entries) k e h =
      let same : cells.Dict (put_entry entries k (val_of v)) ≡ e = cc in
      let p = put_place entries k v (place k (keys_of entries)) refl in
      subst (λ e. Reads e (Elem k) (λ d. Ok d)) same (rw p.1 refl)
  elem_last cells.Null k e h = absurd (cc)
  elem_last (cells.Bool b) k e h = absurd (cc)
  elem_last (cells.Int i) k e h = absurd (cc)
  elem_last (cells.Str s) k e h = absurd (cc)
  elem_last (cells.Keyset keys) k e h = absurd (cc)
  elem_last (cells.Obj n) k e h = absurd (cc)

  last_found : (c : Cell) (k : PathKey) (e : Cell) → AppendsNothing (k ∷ []) → set_last r heap c k v ≡ Base e → Reads e k (λ d. Ok d)
  last_found c (Elem k) e a h = elem_last c k e h
  last_found c BadElem e a h = absurd (no_bad_elem c e h)
  last_found c (Prop name) e a h = absurd (no_property (prop_step r heap c name) v e h)
  last_found c BadProp e a h = absurd (no_failure (bad_prop_step heap c) e h)
  last_found c (Nullsafe name) e a h = absurd (no_property (nullsafe_step r heap c name) v e h)
  last_found c Append e a h = absurd a

  -- ---- the keys before it

  module _ (write_more : Cell → Wrote) (read_more : Cell → Result Cell Miss) (found : (d e : Cell) → write_more d ≡ Base e → read_more e ≡ Ok v) where
    in_vec : (items : List Val) (n : ℕ) (e d : Cell) (w : Wrote) → item_of items n ≡ Some d → write_more d ≡ w → in_item items n w ≡ Base e
        → Reads e (Elem (elements.Int (pos n))) read_more
    in_vec items n e d (Base c) q x h =
        let same : cells.Vec (slice_set items n (val_of c)) ≡ e = cc in
        subst (λ e. Reads e (Elem (elements.Int (pos n))) read_more) same (rw (put_item items n d c q) (found d c x))
    in_vec items n e d (Under m i c) q x h = absurd (cc)
    in_vec items n e d (Refused fault) q x h = absurd (cc)

    through_vec : (items : List Val) (n : ℕ) (e : Cell) (o : Option Cell) → item_of items n ≡ o → write_on (item_at items n o) write_more ≡ Base e
        → Reads e (Elem (elements.Int (pos n))) read_more
    through_vec items n e None q h = absurd (cc)
    through_vec items n e (Some d) q h = in_vec items n e d (write_more d) q refl h

    in_dict : (es : List (Key × Val)) (k : Key) (at : ℕ) (e d : Cell) (w : Wrote) → place k (keys_of es) ≡ Some at → item_of (values_of es) at ≡ Some d
        → write_more d ≡ w → in_entry es at w ≡ Base e → Reads e (Elem k) read_more
    in_dict es k at e d (Base c) p q x h =
        let same : cells.Dict (set_value es at (val_of c)) ≡ e = cc in
        let there = finds (set_value es at (val_of c)) k at c (ap (λ ks. place k ks) (keys_stay es at (val_of c)) ∙ p) (put_value es at c (item_inside es at d q)) in
        subst (λ e. Reads e (Elem k) read_more) same (rw there (found d c x))
    in_dict es k at e d (Under m i c) p q x h = absurd (cc)
    in_dict es k at e d (Refused fault) p q x h = absurd (cc)

    through_entry : (es : List (Key × Val)) (k : Key) (at : ℕ) (e : Cell) (o : Option Cell) → place k (keys_of es) ≡ Some at
        → item_of (values_of es) at ≡ o → write_on (entry_at es at o) write_more ≡ Base e → Reads e (Elem k) read_more
    through_entry es k at e None p q h = absurd (cc)
    through_entry es k at e (Some d) p q h = in_dict es k at e d (write_more d) p q refl h

    through_dict : (es : List (Key × Val)) (k : Key) (e : Cell) (o : Option ℕ) → place k (keys_of es) ≡ o
        → write_on (dict_step es o) write_more ≡ Base e → Reads e (Elem k) read_more
    through_dict es k e None p h = absurd (cc)
    through_dict es k e (Some at) p h = through_entry es k at e (item_of (values_of es) at) p refl h

    through_elem : (c : Cell) (k : Key) (e : Cell) → write_on (elem_step c k) write_more ≡ Base e → Reads e (Elem k) read_more
    through_elem (cells.Vec items) (elements.Int (pos n)) e h = through_vec items n e (item_of items n) refl h
    through_elem (cells.Vec items) (elements.Int (negsuc n)) e h = absurd (cc)
    through_elem (cells.Vec items) (elements.Str s) e h = absurd (cc)
    through_elem (cells.Dict entries) k e h = through_dict entries k e (place k (keys_of entries)) refl h
    through_elem (cells.Keyset keys) k e h = absurd (no_write (keyset_step (has_key k keys) k) write_more e (keyset_outside (has_key k keys) k) h)
    through_elem cells.Null k e h = absurd (cc)
    through_elem (cells.Bool b) k e h = absurd (cc)
    through_elem (cells.Int i) k e h = absurd (cc)
    through_elem (cells.Str s) k e h = absurd (cc)
    through_elem (cells.Obj n) k e h = absurd (cc)

    through : (c : Cell) (k : PathKey) (e : Cell) → write_on (step r heap c k) write_more ≡ Base e → Reads e k read_more
    through c (Elem k) e h = through_elem c k e h
    through c BadElem e h = absurd (no_write (bad_elem_step c) write_more e (bad_elem_outside c) h)
    through c (Prop name) e h = absurd (no_write (prop_step r heap c name) write_more e (prop_outside r heap c name) h)
    through c BadProp e h = absurd (no_write (bad_prop_step heap c) write_more e (bad_prop_outside heap c) h)
    through c (Nullsafe name) e h = absurd (no_write (nullsafe_step r heap c name) write_more e (nullsafe_outside r heap c name) h)
    through c Append e h = absurd (no_write (bad_elem_step c) write_more e (bad_elem_outside c) h)

  no_append_behind : (k l : PathKey) (rest : List PathKey) → AppendsNothing (k ∷ l ∷ rest) → AppendsNothing (l ∷ rest)
  no_append_behind (Elem k) l rest a = a
  no_append_behind BadElem l rest a = a
  no_append_behind (Prop name) l rest a = a
  no_append_behind BadProp l rest a = a
  no_append_behind (Nullsafe name) l rest a = a
  no_append_behind Append l rest a = absurd a

  found_behind : (c : Cell) (k : PathKey) (ks : List PathKey) (e : Cell) → AppendsNothing (k ∷ ks) → rebuilt r heap (Sets v) c k ks ≡ Base e
      → get r heap e (k ∷ ks) ≡ Ok v
  found_behind c k [] e a h = last_found c k e a h
  found_behind c k (l ∷ rest) e a h =
      through (λ d. rebuilt r heap (Sets v) d l rest) (λ d. get r heap d (l ∷ rest))
      (λ d x q. found_behind d l rest x (no_append_behind k l rest a) q) c k e h

pub reads_find_writes : ReadsFindWrites
reads_find_writes r heap v c e [] a h = let same : v ≡ e = cc in ap (λ x. Ok x) (sym same)
reads_find_writes r heap v c e (k ∷ ks) a h = found_behind r heap v c k ks e a (in_base_is (rebuilt r heap (Sets v) c k ks) e h)
