-- A member of a type is one of each type above it, and a type with a member has a part.
use Rattle.std.proofs.Common.{◌≡◌, ℕ, ℤ, refl, Bool, true, false, not, ◌&&◌, Option, Some, None, List, [], ◌∷◌}
use Rattle.std.proofs.lemmas.Bool.Decides.{Decides-eqb}
use Rattle.hack_values.specs.declared.cell.Cell.{Cell}
use Rattle.hack_values.specs.declared.cell.Cell.TheVariants as cells
use Rattle.hack_values.specs.declared.cell.Slot.{Slot}
use Rattle.hack_values.specs.declared.cell.Slot.TheVariants as slots
use Rattle.std.specs.List.{list_all}
use Rattle.std.specs.Map.{keys_of, values_of}
use Rattle.hack_values.specs.View.{cells_of}
use Rattle.hack_values.specs.declared.key.Key.{Key}
use Rattle.hack_values.specs.declared.key.Key.TheVariants as keys
use Rattle.type_lattice.specs.declared.types.Leaf.{Leaf}
use Rattle.type_lattice.specs.declared.types.HType.{HType}
use Rattle.type_lattice.specs.declared.types.IntPart.{IntPart}
use Rattle.type_lattice.specs.declared.types.IntPart.TheVariants as ints
use Rattle.type_lattice.specs.declared.types.StrPart.{StrPart}
use Rattle.type_lattice.specs.declared.types.StrPart.TheVariants as strs
use Rattle.type_lattice.specs.declared.types.ObjPart.{ObjPart}
use Rattle.type_lattice.specs.declared.types.ObjPart.TheVariants as objs
use Rattle.type_lattice.specs.Classes.{Tree, below}
use Rattle.type_lattice.specs.Order.{FlagLe, IntLe, StrLe, ObjLe, PartLe, LeafLe, EntryLe, Le}
use Rattle.type_lattice.specs.Types.{initialised, cell, cell_leaf, key_leaf}
use Rattle.type_lattice.specs.Never.{no_ints, no_strs, no_objs, is_absent, is_never, all_alive}
use Rattle.type_lattice.specs.Member.{Heap, in_leaf, key_in, vec_in, dict_in, keyset_in, int_in, str_in, is_class, is_below, obj_in, class_at, cell_in, is_member, AreMembers}
use Rattle.type_lattice.proofs.OrderLaws.{Transitive}

set_above : (a b : Bool) → FlagLe a b → a ≡ true → b ≡ true
set_above true b h m = h
set_above false b h m = absurd (cc)

-- two tests that hold
pub both_true : (a b : Bool) → (a && b) ≡ true → (a ≡ true) × (b ≡ true)
both_true true b h = (refl, h)
both_true false b h = absurd (cc)

-- what holds of each item of a list
each-le : {A : Type 0} (p q : A → Bool) (xs : List A) → ((x : A) → p x ≡ true → q x ≡ true) → list_all p xs ≡ true → list_all q xs ≡ true
each-le p q [] h m = refl
each-le p q (x ∷ xs) h m = let e = both_true _ _ m in rw (h x e.0) (each-le p q xs h e.1)

pub each : {A : Type 0} (p : A → Bool) (xs : List A) → ((x : A) → p x ≡ true) → list_all p xs ≡ true
each p [] h = refl
each p (x ∷ xs) h = rw (h x) (each p xs h)

int_in-le : (i : ℤ) (a b : IntPart) → IntLe a b → int_in i a ≡ true → int_in i b ≡ true
int_in-le i ints.No b h m = absurd (cc)
int_in-le i (ints.One j) ints.No h m = absurd h
int_in-le i (ints.One j) (ints.One k) h m = rw (← h) m
int_in-le i (ints.One j) ints.Any h m = refl
int_in-le i ints.Any ints.No h m = absurd h
int_in-le i ints.Any (ints.One k) h m = absurd h
int_in-le i ints.Any ints.Any h m = refl

str_in-le : (s : List ℕ) (a b : StrPart) → StrLe a b → str_in s a ≡ true → str_in s b ≡ true
str_in-le s strs.No b h m = absurd (cc)
str_in-le s (strs.One j) strs.No h m = absurd h
str_in-le s (strs.One j) (strs.One k) h m = rw (← h) m
str_in-le s (strs.One j) strs.Any h m = refl
str_in-le s strs.Any strs.No h m = absurd h
str_in-le s strs.Any (strs.One k) h m = absurd h
str_in-le s strs.Any strs.Any h m = refl

is_class-below : (tree : Tree) (d : Option ℕ) (c e : ℕ) → below tree c e ≡ true → is_class d c ≡ true → is_below tree d e ≡ true
is_class-below tree None c e h m = absurd (cc)
is_class-below tree (Some d) c e h m = rw ((Decides-eqb d c).0 m) h

module _ (tree : Tree) (higher : Transitive tree) where
  is_below-below : (d : Option ℕ) (c e : ℕ) → below tree c e ≡ true → is_below tree d c ≡ true → is_below tree d e ≡ true
  is_below-below None c e h m = absurd (cc)
  is_below-below (Some d) c e h m = higher d c e m h

  pub obj_in-le : (d : Option ℕ) (a b : ObjPart) → ObjLe tree a b → obj_in tree d a ≡ true → obj_in tree d b ≡ true
  obj_in-le d objs.No b h m = absurd (cc)
  obj_in-le d (objs.Exact c) objs.No h m = absurd h
  obj_in-le d (objs.Exact c) (objs.Exact e) h m = rw (← h) m
  obj_in-le d (objs.Exact c) (objs.Sub e) h m = is_class-below tree d c e h m
  obj_in-le d (objs.Exact c) objs.Any h m = refl
  obj_in-le d (objs.Sub c) objs.No h m = absurd h
  obj_in-le d (objs.Sub c) (objs.Exact e) h m = absurd h
  obj_in-le d (objs.Sub c) (objs.Sub e) h m = is_below-below d c e h m
  obj_in-le d (objs.Sub c) objs.Any h m = refl
  obj_in-le d objs.Any objs.No h m = absurd h
  obj_in-le d objs.Any (objs.Exact e) h m = absurd h
  obj_in-le d objs.Any (objs.Sub e) h m = absurd h
  obj_in-le d objs.Any objs.Any h m = refl

  pub in_leaf-le : (heap : Heap) (c : Cell) (a b : Leaf) → LeafLe tree a b → in_leaf tree heap a c ≡ true → in_leaf tree heap b c ≡ true
  in_leaf-le heap cells.Null a b h m = set_above _ _ h.null m
  in_leaf-le heap (cells.Bool true) a b h m = set_above _ _ h.yes m
  in_leaf-le heap (cells.Bool false) a b h m = set_above _ _ h.no m
  in_leaf-le heap (cells.Int i) a b h m = int_in-le i _ _ h.int m
  in_leaf-le heap (cells.Str s) a b h m = str_in-le s _ _ h.str m
  in_leaf-le heap (cells.Vec items) a b h m = set_above _ _ h.vec m
  in_leaf-le heap (cells.Dict entries) a b h m = set_above _ _ h.dict m
  in_leaf-le heap (cells.Keyset elements) a b h m = set_above _ _ h.keyset m
  in_leaf-le heap (cells.Obj n) a b h m = obj_in-le (class_at heap n) _ _ h.obj m

  pub key_in-le : (k : Key) (a b : Leaf) → LeafLe tree a b → key_in a k ≡ true → key_in b k ≡ true
  key_in-le (keys.Int i) a b h m = int_in-le i _ _ h.int m
  key_in-le (keys.Str s) a b h m = str_in-le s _ _ h.str m

  vec_in-le : (heap : Heap) (items : List Cell) (a b : Option Leaf) → PartLe (LeafLe tree) a b → vec_in tree heap a items ≡ true → vec_in tree heap b items ≡ true
  vec_in-le heap items None b h m = absurd (cc)
  vec_in-le heap items (Some a) None h m = absurd h
  vec_in-le heap items (Some a) (Some b) h m = each-le _ _ items (λ c. in_leaf-le heap c a b h) m

  dict_in-le : (heap : Heap) (ks : List Key) (items : List Cell) (a b : Option (Leaf × Leaf)) → PartLe (EntryLe tree) a b → dict_in tree heap a ks items ≡ true → dict_in tree heap b ks items ≡ true
  dict_in-le heap ks items None b h m = absurd (cc)
  dict_in-le heap ks items (Some a) None h m = absurd h
  dict_in-le heap ks items (Some a) (Some b) h m =
      let p = both_true _ _ m in
      rw (each-le _ _ ks (λ k. key_in-le k a.0 b.0 h.0) p.0) (each-le _ _ items (λ c. in_leaf-le heap c a.1 b.1 h.1) p.1)

  keyset_in-le : (ks : List Key) (a b : Option Leaf) → PartLe (LeafLe tree) a b → keyset_in a ks ≡ true → keyset_in b ks ≡ true
  keyset_in-le ks None b h m = absurd (cc)
  keyset_in-le ks (Some a) None h m = absurd h
  keyset_in-le ks (Some a) (Some b) h m = each-le _ _ ks (λ k. key_in-le k a b h) m

  pub cell_in-le : (heap : Heap) (c : Cell) (a b : HType) → Le tree a b → cell_in tree heap c a ≡ true → cell_in tree heap c b ≡ true
  cell_in-le heap cells.Null a b h m = set_above _ _ h.null m
  cell_in-le heap (cells.Bool true) a b h m = set_above _ _ h.yes m
  cell_in-le heap (cells.Bool false) a b h m = set_above _ _ h.no m
  cell_in-le heap (cells.Int i) a b h m = int_in-le i _ _ h.int m
  cell_in-le heap (cells.Str s) a b h m = str_in-le s _ _ h.str m
  cell_in-le heap (cells.Vec items) a b h m = vec_in-le heap (cells_of items) _ _ h.vec m
  cell_in-le heap (cells.Dict entries) a b h m = dict_in-le heap (keys_of entries) (cells_of (values_of entries)) _ _ h.dict m
  cell_in-le heap (cells.Keyset elements) a b h m = keyset_in-le elements _ _ h.keyset m
  cell_in-le heap (cells.Obj n) a b h m = obj_in-le (class_at heap n) _ _ h.obj m

  pub is_member-le : (heap : Heap) (s : Slot) (a b : HType) → Le tree a b → is_member tree heap s a ≡ true → is_member tree heap s b ≡ true
  is_member-le heap slots.Uninit a b h m = set_above _ _ h.uninit m
  is_member-le heap (slots.Cell c) a b h m = cell_in-le heap c a b h m

-- what has a member isn't without members
second_false : (a : Bool) → (a && false) ≡ false
second_false true = refl
second_false false = refl

int_in-some : (i : ℤ) (p : IntPart) → int_in i p ≡ true → no_ints p ≡ false
int_in-some i ints.No h = absurd (cc)
int_in-some i (ints.One j) h = refl
int_in-some i ints.Any h = refl

str_in-some : (s : List ℕ) (p : StrPart) → str_in s p ≡ true → no_strs p ≡ false
str_in-some s strs.No h = absurd (cc)
str_in-some s (strs.One j) h = refl
str_in-some s strs.Any h = refl

obj_in-some : (tree : Tree) (d : Option ℕ) (p : ObjPart) → obj_in tree d p ≡ true → no_objs p ≡ false
obj_in-some tree d objs.No h = absurd (cc)
obj_in-some tree d (objs.Exact c) h = refl
obj_in-some tree d (objs.Sub c) h = refl
obj_in-some tree d objs.Any h = refl

vec_in-some : (tree : Tree) (heap : Heap) (items : List Cell) (o : Option Leaf) → vec_in tree heap o items ≡ true → is_absent o ≡ false
vec_in-some tree heap items None h = absurd (cc)
vec_in-some tree heap items (Some l) h = refl

dict_in-some : (tree : Tree) (heap : Heap) (ks : List Key) (items : List Cell) (o : Option (Leaf × Leaf)) → dict_in tree heap o ks items ≡ true → is_absent o ≡ false
dict_in-some tree heap ks items None h = absurd (cc)
dict_in-some tree heap ks items (Some l) h = refl

keyset_in-some : (ks : List Key) (o : Option Leaf) → keyset_in o ks ≡ true → is_absent o ≡ false
keyset_in-some ks None h = absurd (cc)
keyset_in-some ks (Some l) h = refl

pub is_member-some : (tree : Tree) (heap : Heap) (s : Slot) (t : HType) → is_member tree heap s t ≡ true → is_never t ≡ false
is_member-some tree heap slots.Uninit t m = rw m refl
is_member-some tree heap (slots.Cell cells.Null) t m = simp (m, second_false)
is_member-some tree heap (slots.Cell (cells.Bool true)) t m = simp (m, second_false)
is_member-some tree heap (slots.Cell (cells.Bool false)) t m = simp (m, second_false)
is_member-some tree heap (slots.Cell (cells.Int i)) t m = simp (int_in-some i t.int m, second_false)
is_member-some tree heap (slots.Cell (cells.Str s)) t m = simp (str_in-some s t.str m, second_false)
is_member-some tree heap (slots.Cell (cells.Vec items)) t m = simp (vec_in-some tree heap (cells_of items) t.vec m, second_false)
is_member-some tree heap (slots.Cell (cells.Dict entries)) t m = simp (dict_in-some tree heap (keys_of entries) (cells_of (values_of entries)) t.dict m, second_false)
is_member-some tree heap (slots.Cell (cells.Keyset elements)) t m = simp (keyset_in-some elements t.keyset m, second_false)
is_member-some tree heap (slots.Cell (cells.Obj n)) t m = simp (obj_in-some tree (class_at heap n) t.obj m, second_false)

pub AreMembers-alive : (tree : Tree) (heap : Heap) (ss : List Slot) (ts : List HType) → AreMembers tree heap ss ts → all_alive ts ≡ true
AreMembers-alive tree heap [] [] h = refl
AreMembers-alive tree heap [] (t ∷ ts) h = absurd h
AreMembers-alive tree heap (s ∷ ss) [] h = absurd h
AreMembers-alive tree heap (s ∷ ss) (t ∷ ts) h = rw (is_member-some tree heap s t h.0) (AreMembers-alive tree heap ss ts h.1)

-- a cell keeps to a type without Uninit
pub cell_in-initialised : (tree : Tree) (heap : Heap) (c : Cell) (t : HType) → cell_in tree heap c t ≡ true → cell_in tree heap c (initialised t) ≡ true
cell_in-initialised tree heap cells.Null t h = h
cell_in-initialised tree heap (cells.Bool true) t h = h
cell_in-initialised tree heap (cells.Bool false) t h = h
cell_in-initialised tree heap (cells.Int i) t h = h
cell_in-initialised tree heap (cells.Str s) t h = h
cell_in-initialised tree heap (cells.Vec items) t h = h
cell_in-initialised tree heap (cells.Dict entries) t h = h
cell_in-initialised tree heap (cells.Keyset elements) t h = h
cell_in-initialised tree heap (cells.Obj n) t h = h

pub leaf_has : (tree : Tree) (heap : Heap) (c : Cell) → in_leaf tree heap cell_leaf c ≡ true
leaf_has tree heap cells.Null = refl
leaf_has tree heap (cells.Bool true) = refl
leaf_has tree heap (cells.Bool false) = refl
leaf_has tree heap (cells.Int i) = refl
leaf_has tree heap (cells.Str s) = refl
leaf_has tree heap (cells.Vec items) = refl
leaf_has tree heap (cells.Dict entries) = refl
leaf_has tree heap (cells.Keyset elements) = refl
leaf_has tree heap (cells.Obj n) = refl

pub key_has : (k : Key) → key_in key_leaf k ≡ true
key_has (keys.Int i) = refl
key_has (keys.Str s) = refl

-- each cell is of the type of all
pub cell_in-cell : (tree : Tree) (heap : Heap) (c : Cell) → cell_in tree heap c cell ≡ true
cell_in-cell tree heap cells.Null = refl
cell_in-cell tree heap (cells.Bool true) = refl
cell_in-cell tree heap (cells.Bool false) = refl
cell_in-cell tree heap (cells.Int i) = refl
cell_in-cell tree heap (cells.Str s) = refl
cell_in-cell tree heap (cells.Vec items) = each _ (cells_of items) (leaf_has tree heap)
cell_in-cell tree heap (cells.Dict entries) = rw (each _ (keys_of entries) key_has) (each _ (cells_of (values_of entries)) (leaf_has tree heap))
cell_in-cell tree heap (cells.Keyset elements) = each _ elements key_has
cell_in-cell tree heap (cells.Obj n) = refl

-- what is above a type with a part has a part
not-le : (a b : Bool) → FlagLe a b → not b ≡ true → not a ≡ true
not-le false b h k = refl
not-le true b h k = rw h at k

no_ints-le : (a b : IntPart) → IntLe a b → no_ints b ≡ true → no_ints a ≡ true
no_ints-le ints.No b h k = refl
no_ints-le (ints.One i) ints.No h k = absurd h
no_ints-le (ints.One i) (ints.One j) h k = k
no_ints-le (ints.One i) ints.Any h k = k
no_ints-le ints.Any ints.No h k = absurd h
no_ints-le ints.Any (ints.One j) h k = absurd h
no_ints-le ints.Any ints.Any h k = k

no_strs-le : (a b : StrPart) → StrLe a b → no_strs b ≡ true → no_strs a ≡ true
no_strs-le strs.No b h k = refl
no_strs-le (strs.One i) strs.No h k = absurd h
no_strs-le (strs.One i) (strs.One j) h k = k
no_strs-le (strs.One i) strs.Any h k = k
no_strs-le strs.Any strs.No h k = absurd h
no_strs-le strs.Any (strs.One j) h k = absurd h
no_strs-le strs.Any strs.Any h k = k

no_objs-le : (tree : Tree) (a b : ObjPart) → ObjLe tree a b → no_objs b ≡ true → no_objs a ≡ true
no_objs-le tree objs.No b h k = refl
no_objs-le tree (objs.Exact c) objs.No h k = absurd h
no_objs-le tree (objs.Exact c) (objs.Exact d) h k = k
no_objs-le tree (objs.Exact c) (objs.Sub d) h k = k
no_objs-le tree (objs.Exact c) objs.Any h k = k
no_objs-le tree (objs.Sub c) objs.No h k = absurd h
no_objs-le tree (objs.Sub c) (objs.Exact d) h k = k
no_objs-le tree (objs.Sub c) (objs.Sub d) h k = k
no_objs-le tree (objs.Sub c) objs.Any h k = k
no_objs-le tree objs.Any objs.No h k = absurd h
no_objs-le tree objs.Any (objs.Exact d) h k = k
no_objs-le tree objs.Any (objs.Sub d) h k = k
no_objs-le tree objs.Any objs.Any h k = k

is_absent-le : {A : Type 0} (R : A → A → Type 0) (a b : Option A) → PartLe R a b → is_absent b ≡ true → is_absent a ≡ true
is_absent-le R None b h k = refl
is_absent-le R (Some a) None h k = absurd h
is_absent-le R (Some a) (Some b) h k = k

all_true : (a b c d e f g h i j : Bool) → a ≡ true → b ≡ true → c ≡ true → d ≡ true → e ≡ true → f ≡ true → g ≡ true → h ≡ true → i ≡ true → j ≡ true
    → (a && (b && (c && (d && (e && (f && (g && (h && (i && j))))))))) ≡ true
all_true a b c d e f g h i j p q r s t u v w x y = rw (p, q, r, s, t, u, v, w, x, y) refl

is_never-le : (tree : Tree) (a b : HType) → Le tree a b → is_never b ≡ true → is_never a ≡ true
is_never-le tree a b h k =
    let k1 = both_true _ _ k in
    let k2 = both_true _ _ k1.1 in
    let k3 = both_true _ _ k2.1 in
    let k4 = both_true _ _ k3.1 in
    let k5 = both_true _ _ k4.1 in
    let k6 = both_true _ _ k5.1 in
    let k7 = both_true _ _ k6.1 in
    let k8 = both_true _ _ k7.1 in
    let k9 = both_true _ _ k8.1 in
    all_true _ _ _ _ _ _ _ _ _ _
    (not-le _ _ h.uninit k1.0)
    (not-le _ _ h.null k2.0)
    (not-le _ _ h.no k3.0)
    (not-le _ _ h.yes k4.0)
    (no_ints-le _ _ h.int k5.0)
    (no_strs-le _ _ h.str k6.0)
    (no_objs-le tree _ _ h.obj k7.0)
    (is_absent-le (LeafLe tree) a.vec b.vec h.vec k8.0)
    (is_absent-le (EntryLe tree) a.dict b.dict h.dict k9.0)
    (is_absent-le (LeafLe tree) a.keyset b.keyset h.keyset k9.1)

by_never : (a b : Bool) → (b ≡ true → a ≡ true) → not a ≡ true → not b ≡ true
by_never a true h k = rw (h refl) at k
by_never a false h k = refl

pub is_alive-le : (tree : Tree) (a b : HType) → Le tree a b → not (is_never a) ≡ true → not (is_never b) ≡ true
is_alive-le tree a b h k = by_never (is_never a) (is_never b) (is_never-le tree a b h) k
