-- The test of proper types says whether a type is proper.
use Rattle.std.proofs.Common.{◌≡◌, ◌≤◌, ◌<◌, ◌-◌, ◌^◌, ℕ, ℤ, zero, suc, pos, negsuc, Bool, true, false, not, ◌&&◌, ◌==◌, nat_le, List, [], ◌∷◌, ◌++◌, length, drop, replicate, Option, Some, None, take, get_or, All, Fits, FitsSigned, w8, w64, refl, arith, ap, sym, ◌∙◌}
use Rattle.std.specs.Prelude.{nat_lt}
use Rattle.std.specs.List.{list_all}
use Rattle.std.specs.Str.{bytes_eq}
use Rattle.std.proofs.lemmas.Bool.{and_parts, eq-eqb, eqb-true, leb-true, le-leb}
use Rattle.std.proofs.lemmas.List.{length-drop, take_rest}
use Rattle.std.proofs.lemmas.Slice.Eq.{bytes_eq-Decides}
use Rattle.type_lattice.specs.declared.types.IntPart.{IntPart}
use Rattle.type_lattice.specs.declared.types.IntPart.TheVariants as ints
use Rattle.type_lattice.specs.declared.types.StrPart.{StrPart}
use Rattle.type_lattice.specs.declared.types.StrPart.TheVariants as strs
use Rattle.type_lattice.specs.declared.types.ObjPart.{ObjPart}
use Rattle.type_lattice.specs.declared.types.ObjPart.TheVariants as objs
use Rattle.type_lattice.specs.declared.types.Short.{Short}
use Rattle.type_lattice.specs.declared.types.Leaf.{Leaf}
use Rattle.type_lattice.specs.declared.types.HType.{HType}
use Rattle.type_lattice.specs.Classes.{Tree}
use Rattle.type_lattice.specs.InRange.{where_there, is_int64, is_byte, int_in_range, short_in_range, str_in_range, leaf_in_range, has_keys_alone, key_in_range, entry_in_range, type_in_range, obj_classes, vec_classes, dict_classes, classes_of, is_proper}
use Rattle.type_lattice.specs.Never.{no_objs}
use Rattle.type_lattice.specs.Proper.{ProperInt, ProperShort, ProperStr, ProperObj, ProperLeaf, ProperKey, ProperVec, ProperDict, ProperKeyset, IsProper}
use Rattle.type_lattice.specs.Laws.{ProperIsTested}
use Rattle.type_lattice.proofs.NeverLaws.{unset, objs_none}

-- two tests that hold, together
pub both : (a b : Bool) → a ≡ true → b ≡ true → (a && b) ≡ true
both a b h k = rw (h, k) refl

all_front : (f : ℕ → Bool) (xs ys : List ℕ) → list_all f (xs ++ ys) ≡ (list_all f xs && list_all f ys)
all_front f [] ys = refl
all_front f (x ∷ xs) ys = ap (λ b. f x && b) (all_front f xs ys) ∙ grouped (f x) (list_all f xs) (list_all f ys)
  where
    grouped : (a b c : Bool) → (a && (b && c)) ≡ ((a && b) && c)
    grouped true b c = refl
    grouped false b c = refl

-- a test of each of three lists, one after the other
pub all_of_three : (f : ℕ → Bool) (xs ys zs : List ℕ) → list_all f (xs ++ (ys ++ zs)) ≡ (list_all f xs && (list_all f ys && list_all f zs))
all_of_three f xs ys zs = all_front f xs (ys ++ zs) ∙ ap (λ b. list_all f xs && b) (all_front f ys zs)

-- ---- the parts of a type in its ranges

pub record RangeParts (t : HType) : Type 0 where
  pub int : int_in_range t.int ≡ true
  pub str : str_in_range t.str ≡ true
  pub vec : where_there leaf_in_range t.vec ≡ true
  pub dict : where_there entry_in_range t.dict ≡ true
  pub keyset : where_there key_in_range t.keyset ≡ true

pub range_parts : (t : HType) → type_in_range t ≡ true → RangeParts t
range_parts t h =
    let keysets = where_there key_in_range t.keyset in
    let dicts = where_there entry_in_range t.dict && keysets in
    let vecs = where_there leaf_in_range t.vec && dicts in
    let a = and_parts (int_in_range t.int) (str_in_range t.str && vecs) h in
    let b = and_parts (str_in_range t.str) vecs a.1 in
    let c = and_parts (where_there leaf_in_range t.vec) dicts b.1 in
    let d = and_parts (where_there entry_in_range t.dict) keysets c.1 in
    record { int = a.0; str = b.0; vec = c.0; dict = d.0; keyset = d.1 }

pub parts_range : (t : HType) → RangeParts t → type_in_range t ≡ true
parts_range t r =
    let keysets = where_there key_in_range t.keyset in
    let dicts = where_there entry_in_range t.dict && keysets in
    let vecs = where_there leaf_in_range t.vec && dicts in
    both (int_in_range t.int) (str_in_range t.str && vecs) r.int
    (both (str_in_range t.str) vecs r.str
    (both (where_there leaf_in_range t.vec) dicts r.vec (both (where_there entry_in_range t.dict) keysets r.dict r.keyset)))

-- ---- ints

pub int64_is : (i : ℤ) → FitsSigned w64 i → is_int64 i ≡ true
int64_is (pos n) h = le-leb (suc n) (2 ^ 63) h.sfits
int64_is (negsuc n) h = le-leb (suc n) (2 ^ 63) h.sfits

is_int64-fits : (i : ℤ) → is_int64 i ≡ true → FitsSigned w64 i
is_int64-fits (pos n) h = record { sfits = leb-true (suc n) (2 ^ 63) h }
is_int64-fits (negsuc n) h = record { sfits = leb-true (suc n) (2 ^ 63) h }

int_tested : (p : IntPart) → ProperInt p → int_in_range p ≡ true
int_tested ints.No h = refl
int_tested (ints.One i) h = int64_is i h
int_tested ints.Any h = refl

tested_int : (p : IntPart) → int_in_range p ≡ true → ProperInt p
tested_int ints.No h = tt
tested_int (ints.One i) h = is_int64-fits i h
tested_int ints.Any h = tt

-- ---- strings

bytes_tested : (bs : List ℕ) → All (λ b. b < 256) bs → list_all is_byte bs ≡ true
bytes_tested [] h = refl
bytes_tested (b ∷ bs) h = both (is_byte b) (list_all is_byte bs) (le-leb (suc b) 256 (h 0 0 (omega arith))) (bytes_tested bs (λ k d l. h (suc k) d (omega (arith, l))))

tested_bytes : (bs : List ℕ) → list_all is_byte bs ≡ true → All (λ b. b < 256) bs
tested_bytes [] h k d l = absurd (omega arith)
tested_bytes (b ∷ bs) h zero d l = leb-true (suc b) 256 (and_parts (is_byte b) (list_all is_byte bs) h).0
tested_bytes (b ∷ bs) h (suc k) d l = tested_bytes bs (and_parts (is_byte b) (list_all is_byte bs) h).1 k d (omega (arith, l))

-- zeros alone
pub zeros_are : (n : ℕ) (xs : List ℕ) → length xs ≡ n → list_all (λ b. b == 0) xs ≡ bytes_eq xs (replicate n 0)
zeros_are zero [] e = refl
zeros_are (suc n) [] e = absurd (omega arith)
zeros_are zero (x ∷ xs) e = absurd (omega arith)
zeros_are (suc n) (x ∷ xs) e = ap (λ b. (x == 0) && b) (zeros_are n xs (omega (arith, e)))

bytes_fit : (bs : List ℕ) → ((i : ℕ) → Fits w8 (get_or bs i 0)) → list_all is_byte bs ≡ true
bytes_fit [] h = refl
bytes_fit (b ∷ bs) h = both (is_byte b) (list_all is_byte bs) (le-leb (suc b) 256 (let k = (h 0).fits in omega arith)) (bytes_fit bs (λ i. h (suc i)))

-- zeros behind the front of 32 bytes
pub padded_tested : (n : ℕ) (bs : List ℕ) → length bs ≡ 32 → n ≤ 32 → ((i : ℕ) → Fits w8 (get_or bs i 0))
    → list_all (λ b. b == 0) (take (length bs - n) (drop n bs)) ≡ short_in_range (record { len = n; bytes = bs })
padded_tested n bs room short fit =
    let rest = bytes_eq (drop n bs) (replicate (32 - n) 0) in
    let count : length (drop n bs) ≡ 32 - n = length-drop n bs ∙ ap (λ k. k - n) room in
    ap (list_all (λ b. b == 0)) (take_rest bs n) ∙ zeros_are (32 - n) (drop n bs) count
    ∙ sym (tests (nat_le n 32) (length bs == 32) (list_all is_byte bs) rest (le-leb n 32 short) (eq-eqb (length bs) 32 room) (bytes_fit bs fit))
  where
    tests : (a b c d : Bool) → a ≡ true → b ≡ true → c ≡ true → (a && (b && (c && d))) ≡ d
    tests a b c d h k m = rw (h, k, m) refl

short_tested : (s : Short) → ProperShort s → short_in_range s ≡ true
short_tested s h =
    let zeros = bytes_eq (drop s.len s.bytes) (replicate (32 - s.len) 0) in
    both (nat_le s.len 32) ((length s.bytes == 32) && (list_all is_byte s.bytes && zeros)) (le-leb s.len 32 h.short)
    (both (length s.bytes == 32) (list_all is_byte s.bytes && zeros) (eq-eqb (length s.bytes) 32 h.room)
    (both (list_all is_byte s.bytes) zeros (bytes_tested s.bytes h.bytes) ((bytes_eq-Decides (drop s.len s.bytes) (replicate (32 - s.len) 0)).1 h.zeros)))

tested_short : (s : Short) → short_in_range s ≡ true → ProperShort s
tested_short s h =
    let zeros = bytes_eq (drop s.len s.bytes) (replicate (32 - s.len) 0) in
    let a = and_parts (nat_le s.len 32) ((length s.bytes == 32) && (list_all is_byte s.bytes && zeros)) h in
    let b = and_parts (length s.bytes == 32) (list_all is_byte s.bytes && zeros) a.1 in
    let c = and_parts (list_all is_byte s.bytes) zeros b.1 in
    record {
      short = leb-true s.len 32 a.0;
      room = eqb-true (length s.bytes) 32 b.0;
      bytes = tested_bytes s.bytes c.0;
      zeros = (bytes_eq-Decides (drop s.len s.bytes) (replicate (32 - s.len) 0)).0 c.1;
    }

str_tested : (p : StrPart) → ProperStr p → str_in_range p ≡ true
str_tested strs.No h = refl
str_tested (strs.One s) h = short_tested s h
str_tested strs.Any h = refl

tested_str : (p : StrPart) → str_in_range p ≡ true → ProperStr p
tested_str strs.No h = tt
tested_str (strs.One s) h = tested_short s h
tested_str strs.Any h = tt

-- ---- leaves

scalars_tested : (l : Leaf) → ProperInt l.int → ProperStr l.str → leaf_in_range l ≡ true
scalars_tested l h k = both (int_in_range l.int) (str_in_range l.str) (int_tested l.int h) (str_tested l.str k)

-- what has no part but ints and strings
pub record KeysAlone (l : Leaf) : Type 0 where
  pub null : l.null ≡ false
  pub no : l.no ≡ false
  pub yes : l.yes ≡ false
  pub obj : l.obj ≡ objs.No
  pub vec : l.vec ≡ false
  pub dict : l.dict ≡ false
  pub keyset : l.keyset ≡ false

pub keys_alone_tested : (l : Leaf) → KeysAlone l → has_keys_alone l ≡ true
keys_alone_tested l h =
    λ i. not (h.null i) && (not (h.no i) && (not (h.yes i) && (no_objs (h.obj i) && (not (h.vec i) && (not (h.dict i) && not (h.keyset i))))))

pub tested_keys_alone : (l : Leaf) → has_keys_alone l ≡ true → KeysAlone l
tested_keys_alone l h =
    let a = and_parts (not l.null) _ h in
    let b = and_parts (not l.no) _ a.1 in
    let c = and_parts (not l.yes) _ b.1 in
    let d = and_parts (no_objs l.obj) _ c.1 in
    let e = and_parts (not l.vec) _ d.1 in
    let f = and_parts (not l.dict) (not l.keyset) e.1 in
    record {
      null = unset l.null a.0;
      no = unset l.no b.0;
      yes = unset l.yes c.0;
      obj = objs_none l.obj d.0;
      vec = unset l.vec e.0;
      dict = unset l.dict f.0;
      keyset = unset l.keyset f.1;
    }

key_tested : (l : Leaf) → ProperKey l → key_in_range l ≡ true
key_tested l h =
    both (leaf_in_range l) (has_keys_alone l) (scalars_tested l h.int h.str)
    (keys_alone_tested l (record { null = h.null; no = h.no; yes = h.yes; obj = h.obj; vec = h.vec; dict = h.dict; keyset = h.keyset }))

tested_key : (l : Leaf) → key_in_range l ≡ true → ProperKey l
tested_key l h =
    let p = and_parts (leaf_in_range l) (has_keys_alone l) h in
    let q = and_parts (int_in_range l.int) (str_in_range l.str) p.0 in
    let k = tested_keys_alone l p.1 in
    record {
      null = k.null;
      no = k.no;
      yes = k.yes;
      int = tested_int l.int q.0;
      str = tested_str l.str q.1;
      obj = k.obj;
      vec = k.vec;
      dict = k.dict;
      keyset = k.keyset;
    }

keyset_tested : (o : Option Leaf) → ProperKeyset o → where_there key_in_range o ≡ true
keyset_tested None h = refl
keyset_tested (Some l) h = key_tested l h

tested_keyset : (o : Option Leaf) → where_there key_in_range o ≡ true → ProperKeyset o
tested_keyset None h = tt
tested_keyset (Some l) h = tested_key l h

module _ (tree : Tree) where
  abbrev in_tree : ℕ → Bool
  in_tree c = nat_lt c (length tree)

  obj_tested : (o : ObjPart) → ProperObj tree o → list_all in_tree (obj_classes o) ≡ true
  obj_tested objs.No h = refl
  obj_tested (objs.Exact c) h = both (in_tree c) true (le-leb (suc c) (length tree) h) refl
  obj_tested (objs.Sub c) h = both (in_tree c) true (le-leb (suc c) (length tree) h) refl
  obj_tested objs.Any h = refl

  tested_obj : (o : ObjPart) → list_all in_tree (obj_classes o) ≡ true → ProperObj tree o
  tested_obj objs.No h = tt
  tested_obj (objs.Exact c) h = leb-true (suc c) (length tree) (and_parts (in_tree c) true h).0
  tested_obj (objs.Sub c) h = leb-true (suc c) (length tree) (and_parts (in_tree c) true h).0
  tested_obj objs.Any h = tt

  tested_leaf : (l : Leaf) → leaf_in_range l ≡ true → list_all in_tree (obj_classes l.obj) ≡ true → ProperLeaf tree l
  tested_leaf l h k =
      let p = and_parts (int_in_range l.int) (str_in_range l.str) h in
      record { int = tested_int l.int p.0; str = tested_str l.str p.1; obj = tested_obj l.obj k }

  vec_tested : (v : Option Leaf) → ProperVec tree v → (where_there leaf_in_range v ≡ true) × (list_all in_tree (vec_classes v) ≡ true)
  vec_tested None h = (refl, refl)
  vec_tested (Some l) h = (scalars_tested l h.int h.str, obj_tested l.obj h.obj)

  tested_vec : (v : Option Leaf) → where_there leaf_in_range v ≡ true → list_all in_tree (vec_classes v) ≡ true → ProperVec tree v
  tested_vec None h k = tt
  tested_vec (Some l) h k = tested_leaf l h k

  dict_tested : (d : Option (Leaf × Leaf)) → ProperDict tree d → (where_there entry_in_range d ≡ true) × (list_all in_tree (dict_classes d) ≡ true)
  dict_tested None h = (refl, refl)
  dict_tested (Some e) h = (both (key_in_range e.0) (leaf_in_range e.1) (key_tested e.0 h.0) (scalars_tested e.1 h.1.int h.1.str), obj_tested e.1.obj h.1.obj)

  tested_dict : (d : Option (Leaf × Leaf)) → where_there entry_in_range d ≡ true → list_all in_tree (dict_classes d) ≡ true → ProperDict tree d
  tested_dict None h k = tt
  tested_dict (Some e) h k = let p = and_parts (key_in_range e.0) (leaf_in_range e.1) h in (tested_key e.0 p.0, tested_leaf e.1 p.1 k)

  proper_tested : (t : HType) → IsProper tree t → is_proper (length tree) t ≡ true
  proper_tested t h =
      let v = vec_tested t.vec h.vec in
      let d = dict_tested t.dict h.dict in
      both (type_in_range t) (list_all in_tree (classes_of t))
      (parts_range t (record { int = int_tested t.int h.int; str = str_tested t.str h.str; vec = v.0; dict = d.0; keyset = keyset_tested t.keyset h.keyset }))
      (all_of_three in_tree (obj_classes t.obj) (vec_classes t.vec) (dict_classes t.dict)
      ∙ both (list_all in_tree (obj_classes t.obj)) (list_all in_tree (vec_classes t.vec) && list_all in_tree (dict_classes t.dict)) (obj_tested t.obj h.obj)
      (both (list_all in_tree (vec_classes t.vec)) (list_all in_tree (dict_classes t.dict)) v.1 d.1))

  tested_proper : (t : HType) → is_proper (length tree) t ≡ true → IsProper tree t
  tested_proper t h =
      let o = list_all in_tree (obj_classes t.obj) in
      let v = list_all in_tree (vec_classes t.vec) in
      let d = list_all in_tree (dict_classes t.dict) in
      let p = and_parts (type_in_range t) (list_all in_tree (classes_of t)) h in
      let q = and_parts o (v && d) (sym (all_of_three in_tree (obj_classes t.obj) (vec_classes t.vec) (dict_classes t.dict)) ∙ p.1) in
      let r = and_parts v d q.1 in
      let a = range_parts t p.0 in
      record {
        int = tested_int t.int a.int;
        str = tested_str t.str a.str;
        obj = tested_obj t.obj q.0;
        vec = tested_vec t.vec a.vec r.0;
        dict = tested_dict t.dict a.dict r.1;
        keyset = tested_keyset t.keyset a.keyset;
      }

pub proper_is_tested : ProperIsTested
proper_is_tested tree t = (tested_proper tree t, proper_tested tree t)

-- what is the same as the test says so too
pub is_proper-means : (tree : Tree) (t : HType) (b : Bool) → b ≡ is_proper (length tree) t → (b ≡ true → IsProper tree t) × (IsProper tree t → b ≡ true)
is_proper-means tree t b e = (λ h. tested_proper tree t (sym e ∙ h), λ h. e ∙ proper_tested tree t h)
