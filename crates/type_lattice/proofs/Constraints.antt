-- The test of constraints says whether a type is one.
use Rattle.std.proofs.Common.{◌≡◌, refl, sym, ap, ◌∙◌, Bool, true, false, not, ◌&&◌, Option, Some, None}
use Rattle.std.proofs.lemmas.Bool.{and_parts}
use Rattle.type_lattice.specs.declared.types.IntPart.{IntPart}
use Rattle.type_lattice.specs.declared.types.IntPart.TheVariants as ints
use Rattle.type_lattice.specs.declared.types.StrPart.{StrPart}
use Rattle.type_lattice.specs.declared.types.StrPart.TheVariants as strs
use Rattle.type_lattice.specs.declared.types.ObjPart.{ObjPart}
use Rattle.type_lattice.specs.declared.types.ObjPart.TheVariants as objs
use Rattle.type_lattice.specs.declared.types.Leaf.{Leaf}
use Rattle.type_lattice.specs.declared.types.HType.{HType}
use Rattle.type_lattice.specs.InRange.{where_there, has_keys_alone}
use Rattle.type_lattice.specs.Types.{cell_leaf, key_leaf}
use Rattle.type_lattice.specs.Never.{is_never}
use Rattle.type_lattice.specs.Whole.{all_ints, all_strs, all_objs, whole_leaf, whole_key}
use Rattle.type_lattice.specs.Keep.{IsIntKind, IsStrKind, IsObjKind, IsKind, IsConstraint, agree, no_one_int, no_one_str, no_one_class, is_all_keys, is_all_entries, is_constraint}
use Rattle.type_lattice.specs.Laws.{ConstraintIsTested}
use Rattle.type_lattice.proofs.NeverLaws.{unset}
use Rattle.type_lattice.proofs.Ranges.{tested_keys_alone}

-- ---- parts

pub agree-equal : (a b : Bool) → agree a b ≡ true → a ≡ b
agree-equal true b h = sym h
agree-equal false true h = absurd (cc)
agree-equal false false h = refl

pub equal-agree : (a b : Bool) → a ≡ b → agree a b ≡ true
equal-agree true b h = sym h
equal-agree false true h = absurd (cc)
equal-agree false false h = refl

pub int_kind : (p : IntPart) → no_one_int p ≡ true → IsIntKind p
int_kind ints.No h = tt
int_kind (ints.One i) h = absurd (cc)
int_kind ints.Any h = tt

pub kind_int : (p : IntPart) → IsIntKind p → no_one_int p ≡ true
kind_int ints.No h = refl
kind_int (ints.One i) h = absurd h
kind_int ints.Any h = refl

pub str_kind : (p : StrPart) → no_one_str p ≡ true → IsStrKind p
str_kind strs.No h = tt
str_kind (strs.One i) h = absurd (cc)
str_kind strs.Any h = tt

pub kind_str : (p : StrPart) → IsStrKind p → no_one_str p ≡ true
kind_str strs.No h = refl
kind_str (strs.One i) h = absurd h
kind_str strs.Any h = refl

pub obj_kind : (p : ObjPart) → no_one_class p ≡ true → IsObjKind p
obj_kind objs.No h = tt
obj_kind (objs.Exact c) h = absurd (cc)
obj_kind (objs.Sub c) h = tt
obj_kind objs.Any h = tt

pub kind_obj : (p : ObjPart) → IsObjKind p → no_one_class p ≡ true
kind_obj objs.No h = refl
kind_obj (objs.Exact c) h = absurd h
kind_obj (objs.Sub c) h = refl
kind_obj objs.Any h = refl

pub ints_any : (p : IntPart) → all_ints p ≡ true → p ≡ ints.Any
ints_any ints.No h = absurd (cc)
ints_any (ints.One i) h = absurd (cc)
ints_any ints.Any h = refl

pub strs_any : (p : StrPart) → all_strs p ≡ true → p ≡ strs.Any
strs_any strs.No h = absurd (cc)
strs_any (strs.One i) h = absurd (cc)
strs_any strs.Any h = refl

pub objs_any : (p : ObjPart) → all_objs p ≡ true → p ≡ objs.Any
objs_any objs.No h = absurd (cc)
objs_any (objs.Exact c) h = absurd (cc)
objs_any (objs.Sub c) h = absurd (cc)
objs_any objs.Any h = refl

-- a whole leaf is the one of all cells
pub leaf_is_cell : (l : Leaf) → whole_leaf l ≡ true → l ≡ cell_leaf
leaf_is_cell l h =
    let k1 = and_parts l.null _ h in
    let k2 = and_parts l.no _ k1.1 in
    let k3 = and_parts l.yes _ k2.1 in
    let k4 = and_parts (all_ints l.int) _ k3.1 in
    let k5 = and_parts (all_strs l.str) _ k4.1 in
    let k6 = and_parts (all_objs l.obj) _ k5.1 in
    let k7 = and_parts l.vec _ k6.1 in
    let k8 = and_parts l.dict l.keyset k7.1 in
    λ i. record {
      null = k1.0 i;
      no = k2.0 i;
      yes = k3.0 i;
      int = ints_any l.int k4.0 i;
      str = strs_any l.str k5.0 i;
      obj = objs_any l.obj k6.0 i;
      vec = k7.0 i;
      dict = k8.0 i;
      keyset = k8.1 i;
    }

-- and one of all keys that has nothing else that of all keys
pub leaf_is_keys : (l : Leaf) → is_all_keys l ≡ true → l ≡ key_leaf
leaf_is_keys l h =
    let p = and_parts (has_keys_alone l) (whole_key l) h in
    let k = tested_keys_alone l p.0 in
    let w = and_parts (all_ints l.int) (all_strs l.str) p.1 in
    λ i. record {
      null = k.null i;
      no = k.no i;
      yes = k.yes i;
      int = ints_any l.int w.0 i;
      str = strs_any l.str w.1 i;
      obj = k.obj i;
      vec = k.vec i;
      dict = k.dict i;
      keyset = k.keyset i;
    }

pub entry_is_all : (e : Leaf × Leaf) → is_all_entries e ≡ true → e ≡ (key_leaf, cell_leaf)
entry_is_all e h =
    let p = and_parts (is_all_keys e.0) (whole_leaf e.1) h in
    let k = leaf_is_keys e.0 p.0 in
    let v = leaf_is_cell e.1 p.1 in
    λ i. (k i, v i)

part_kind : {A : Type 0} (whole : A) (test : A → Bool) → ((a : A) → test a ≡ true → a ≡ whole) → (o : Option A) → where_there test o ≡ true → IsKind whole o
part_kind whole test f None h = tt
part_kind whole test f (Some a) h = f a h

kind_part : {A : Type 0} (whole : A) (test : A → Bool) → test whole ≡ true → (o : Option A) → IsKind whole o → where_there test o ≡ true
kind_part whole test f None h = refl
kind_part whole test f (Some a) h = ap test h ∙ f

-- ---- types

-- no part but whole kinds of cells, by the tests
pub record WholeKinds (t : HType) : Type 0 where
  pub uninit : t.uninit ≡ false
  pub bools : agree t.no t.yes ≡ true
  pub int : no_one_int t.int ≡ true
  pub str : no_one_str t.str ≡ true
  pub obj : no_one_class t.obj ≡ true
  pub vec : where_there whole_leaf t.vec ≡ true
  pub dict : where_there is_all_entries t.dict ≡ true
  pub keyset : where_there is_all_keys t.keyset ≡ true

pub constraint_parts : (t : HType) → is_constraint t ≡ true → WholeKinds t × (is_never t ≡ false)
constraint_parts t h =
    let k1 = and_parts (not t.uninit) _ h in
    let k2 = and_parts (agree t.no t.yes) _ k1.1 in
    let k3 = and_parts (no_one_int t.int) _ k2.1 in
    let k4 = and_parts (no_one_str t.str) _ k3.1 in
    let k5 = and_parts (no_one_class t.obj) _ k4.1 in
    let k6 = and_parts (where_there whole_leaf t.vec) _ k5.1 in
    let k7 = and_parts (where_there is_all_entries t.dict) _ k6.1 in
    let k8 = and_parts (where_there is_all_keys t.keyset) (not (is_never t)) k7.1 in (
      record { uninit = unset t.uninit k1.0; bools = k2.0; int = k3.0; str = k4.0; obj = k5.0; vec = k6.0; dict = k7.0; keyset = k8.0 },
      unset (is_never t) k8.1,
    )

nine_true : (a b c d e f g h i : Bool) → a ≡ false → b ≡ true → c ≡ true → d ≡ true → e ≡ true → f ≡ true → g ≡ true → h ≡ true → i ≡ false
    → (not a && (b && (c && (d && (e && (f && (g && (h && not i)))))))) ≡ true
nine_true a b c d e f g h i p q r s t u v w x = rw (p, q, r, s, t, u, v, w, x) refl

pub parts_constraint : (t : HType) → WholeKinds t → is_never t ≡ false → is_constraint t ≡ true
parts_constraint t p some =
    nine_true t.uninit (agree t.no t.yes) (no_one_int t.int) (no_one_str t.str) (no_one_class t.obj) (where_there whole_leaf t.vec) (where_there is_all_entries t.dict)
    (where_there is_all_keys t.keyset) (is_never t) p.uninit p.bools p.int p.str p.obj p.vec p.dict p.keyset some

tested_constraint : (t : HType) → is_constraint t ≡ true → IsConstraint t
tested_constraint t h =
    let c = constraint_parts t h in
    let p = c.0 in
    record {
      uninit = p.uninit;
      bools = agree-equal t.no t.yes p.bools;
      int = int_kind t.int p.int;
      str = str_kind t.str p.str;
      obj = obj_kind t.obj p.obj;
      vec = part_kind cell_leaf whole_leaf leaf_is_cell t.vec p.vec;
      dict = part_kind (key_leaf, cell_leaf) is_all_entries entry_is_all t.dict p.dict;
      keyset = part_kind key_leaf is_all_keys leaf_is_keys t.keyset p.keyset;
      some = c.1;
    }

constraint_tested : (t : HType) → IsConstraint t → is_constraint t ≡ true
constraint_tested t k =
    parts_constraint t (record {
      uninit = k.uninit;
      bools = equal-agree t.no t.yes k.bools;
      int = kind_int t.int k.int;
      str = kind_str t.str k.str;
      obj = kind_obj t.obj k.obj;
      vec = kind_part cell_leaf whole_leaf refl t.vec k.vec;
      dict = kind_part (key_leaf, cell_leaf) is_all_entries refl t.dict k.dict;
      keyset = kind_part key_leaf is_all_keys refl t.keyset k.keyset;
    }) k.some

pub constraint_is_tested : ConstraintIsTested
constraint_is_tested t = (tested_constraint t, constraint_tested t)
