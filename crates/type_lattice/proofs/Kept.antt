-- The members of what a constraint keeps of a type are those of the type that pass the constraint.
use Rattle.std.proofs.Common.{◌≡◌, ℕ, ℤ, Bool, true, false, ◌&&◌, Option, Some, None, List, refl, sym, ◌∙◌, subst}
use Rattle.std.proofs.lemmas.Bool.Decides.{Decides-eqb}
use Rattle.hack_values.specs.declared.key.Key.{Key}
use Rattle.std.specs.Map.{keys_of, values_of}
use Rattle.hack_values.specs.View.{cells_of}
use Rattle.hack_values.specs.declared.cell.Cell.{Cell}
use Rattle.hack_values.specs.declared.cell.Cell.TheVariants as cells
use Rattle.hack_values.specs.declared.cell.Slot.{Slot}
use Rattle.hack_values.specs.declared.cell.Slot.TheVariants as slots
use Rattle.type_lattice.specs.declared.types.IntPart.{IntPart}
use Rattle.type_lattice.specs.declared.types.IntPart.TheVariants as ints
use Rattle.type_lattice.specs.declared.types.StrPart.{StrPart}
use Rattle.type_lattice.specs.declared.types.StrPart.TheVariants as strs
use Rattle.type_lattice.specs.declared.types.ObjPart.{ObjPart}
use Rattle.type_lattice.specs.declared.types.ObjPart.TheVariants as objs
use Rattle.type_lattice.specs.declared.types.HType.{HType}
use Rattle.type_lattice.specs.Classes.{Tree, below, Forest}
use Rattle.type_lattice.specs.Types.{cell_leaf, key_leaf}
use Rattle.type_lattice.specs.Member.{Heap, in_leaf, key_in, vec_in, dict_in, keyset_in, int_in, str_in, is_below, obj_in, class_at, cell_in, is_member}
use Rattle.type_lattice.specs.Keep.{IsIntKind, IsStrKind, IsKind, IsConstraint, int_keep, str_keep, sub_keep, obj_keep, part_keep, keep}
use Rattle.type_lattice.proofs.Chains.{below_trans}
use Rattle.type_lattice.proofs.Members.{each, leaf_has, key_has, obj_in-le, is_member-le}
use Rattle.type_lattice.proofs.KeepLaws.{cases_sub, cases_exact, apart, obj_passes, keep_narrower}

-- a test that is two
as_both : (x a c : Bool) → (x ≡ true → a ≡ true) → (x ≡ true → c ≡ true) → (a ≡ true → c ≡ true → x ≡ true) → x ≡ (a && c)
as_both true a c f g h = rw (f refl, g refl) refl
as_both false true true f g h = h refl refl
as_both false true false f g h = refl
as_both false false c f g h = refl

-- what passes stays
flag_kept : (a c : Bool) → a ≡ true → c ≡ true → (a && c) ≡ true
flag_kept a c h k = rw (h, k) refl

int_kept : (i : ℤ) (a c : IntPart) → int_in i a ≡ true → int_in i c ≡ true → int_in i (int_keep a c) ≡ true
int_kept i a ints.No h k = k
int_kept i a (ints.One j) h k = h
int_kept i a ints.Any h k = h

str_kept : (s : List ℕ) (a c : StrPart) → str_in s a ≡ true → str_in s c ≡ true → str_in s (str_keep a c) ≡ true
str_kept s a strs.No h k = k
str_kept s a (strs.One j) h k = h
str_kept s a strs.Any h k = h

part_kept : {A : Type 0} (P : Option A → Bool) → (a c : Option A) → P a ≡ true → P c ≡ true → P (part_keep a c) ≡ true
part_kept P a None h k = k
part_kept P a (Some c) h k = h

-- and what stays passes
flag_stays : (a c : Bool) → (a && c) ≡ true → c ≡ true
flag_stays true c h = h
flag_stays false c h = absurd (cc)

int_stays : (i : ℤ) (a c : IntPart) → IsIntKind c → int_in i (int_keep a c) ≡ true → int_in i c ≡ true
int_stays i a ints.No k m = m
int_stays i a (ints.One j) k m = absurd k
int_stays i a ints.Any k m = refl

str_stays : (s : List ℕ) (a c : StrPart) → IsStrKind c → str_in s (str_keep a c) ≡ true → str_in s c ≡ true
str_stays s a strs.No k m = m
str_stays s a (strs.One j) k m = absurd k
str_stays s a strs.Any k m = refl

part_stays : {A : Type 0} (whole : A) (P : Option A → Bool) → P (Some whole) ≡ true → (a c : Option A) → IsKind whole c → P (part_keep a c) ≡ true → P c ≡ true
part_stays whole P h a None k m = m
part_stays whole P h a (Some c) k m = subst (λ w. P (Some w) ≡ true) (sym k) h

module _ (t : Tree) (forest : Forest t) where
  sub_kept : (o : Option ℕ) (a : ObjPart) (c : ℕ) → obj_in t o a ≡ true → is_below t o c ≡ true → obj_in t o (sub_keep t a c) ≡ true
  sub_kept None a c h k = absurd (cc)
  sub_kept (Some x) objs.No c h k = h
  sub_kept (Some x) (objs.Exact d) c h k =
      let m : below t d c ≡ true = subst (λ y. below t y c ≡ true) ((Decides-eqb x d).0 h) k in
      cases_exact t d c (λ p. obj_in t (Some x) p ≡ true) (λ e. h) (λ e. sym e ∙ m)
  sub_kept (Some x) (objs.Sub d) c h k =
      cases_sub t d c (λ p. obj_in t (Some x) p ≡ true) (λ w. h) (λ p w. k) (λ p q. absurd (apart t forest x d c h k p q))
  sub_kept (Some x) objs.Any c h k = k

  obj_kept : (o : Option ℕ) (a c : ObjPart) → obj_in t o a ≡ true → obj_in t o c ≡ true → obj_in t o (obj_keep t a c) ≡ true
  obj_kept o a objs.No h k = k
  obj_kept o a (objs.Exact c) h k = h
  obj_kept o a (objs.Sub c) h k = sub_kept o a c h k
  obj_kept o a objs.Any h k = h

  module _ (heap : Heap) (a c : HType) where
    cell_kept : (v : Cell) → cell_in t heap v a ≡ true → cell_in t heap v c ≡ true → cell_in t heap v (keep t a c) ≡ true
    cell_kept cells.Null h m = flag_kept a.null c.null h m
    cell_kept (cells.Bool true) h m = flag_kept a.yes c.yes h m
    cell_kept (cells.Bool false) h m = flag_kept a.no c.no h m
    cell_kept (cells.Int i) h m = int_kept i a.int c.int h m
    cell_kept (cells.Str s) h m = str_kept s a.str c.str h m
    cell_kept (cells.Vec items) h m = part_kept (λ p. vec_in t heap p (cells_of items)) a.vec c.vec h m
    cell_kept (cells.Dict entries) h m = part_kept (λ p. dict_in t heap p (keys_of entries) (cells_of (values_of entries))) a.dict c.dict h m
    cell_kept (cells.Keyset elements) h m = part_kept (λ p. keyset_in p elements) a.keyset c.keyset h m
    cell_kept (cells.Obj n) h m = obj_kept (class_at heap n) a.obj c.obj h m

    member_kept : (s : Slot) → is_member t heap s a ≡ true → is_member t heap s c ≡ true → is_member t heap s (keep t a c) ≡ true
    member_kept slots.Uninit h m = flag_kept a.uninit c.uninit h m
    member_kept (slots.Cell v) h m = cell_kept v h m

    module _ (k : IsConstraint c) where
      all_leaf : (items : List Cell) → vec_in t heap (Some cell_leaf) items ≡ true
      all_leaf items = each (in_leaf t heap cell_leaf) items (leaf_has t heap)

      all_keys : (ks : List Key) → keyset_in (Some key_leaf) ks ≡ true
      all_keys ks = each (key_in key_leaf) ks key_has

      cell_stays : (v : Cell) → cell_in t heap v (keep t a c) ≡ true → cell_in t heap v c ≡ true
      cell_stays cells.Null m = flag_stays a.null c.null m
      cell_stays (cells.Bool true) m = flag_stays a.yes c.yes m
      cell_stays (cells.Bool false) m = flag_stays a.no c.no m
      cell_stays (cells.Int i) m = int_stays i a.int c.int k.int m
      cell_stays (cells.Str s) m = str_stays s a.str c.str k.str m
      cell_stays (cells.Vec items) m = part_stays cell_leaf (λ p. vec_in t heap p (cells_of items)) (all_leaf (cells_of items)) a.vec c.vec k.vec m
      cell_stays (cells.Dict entries) m =
          let ks = keys_of entries in let vs = cells_of (values_of entries) in
          part_stays (key_leaf, cell_leaf) (λ p. dict_in t heap p ks vs) (flag_kept _ _ (all_keys ks) (all_leaf vs)) a.dict c.dict k.dict m
      cell_stays (cells.Keyset elements) m = part_stays key_leaf (λ p. keyset_in p elements) (all_keys elements) a.keyset c.keyset k.keyset m
      cell_stays (cells.Obj n) m = obj_in-le t (below_trans t forest) (class_at heap n) (obj_keep t a.obj c.obj) c.obj (obj_passes t a.obj c.obj k.obj) m

      member_stays : (s : Slot) → is_member t heap s (keep t a c) ≡ true → is_member t heap s c ≡ true
      member_stays slots.Uninit m = flag_stays a.uninit c.uninit m
      member_stays (slots.Cell v) m = cell_stays v m

      pub members_of_both : (s : Slot) → is_member t heap s (keep t a c) ≡ (is_member t heap s a && is_member t heap s c)
      members_of_both s =
          as_both (is_member t heap s (keep t a c)) (is_member t heap s a) (is_member t heap s c)
          (is_member-le t (below_trans t forest) heap s (keep t a c) a (keep_narrower t a c)) (member_stays s) (member_kept s)
