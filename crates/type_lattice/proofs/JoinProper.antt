-- The join of proper types is proper.
use Rattle.std.proofs.Common.{◌≡◌, ◌<◌, ℕ, zero, suc, Bool, true, false, ◌||◌, ◌==◌, Option, Some, None, [], length, cond, refl, ◌⊎◌, inl, inr}
use Rattle.std.specs.Prelude.{IsTrue}
use Rattle.std.specs.Ordering.{int_eq}
use Rattle.type_lattice.specs.declared.types.IntPart.{IntPart}
use Rattle.type_lattice.specs.declared.types.IntPart.TheVariants as ints
use Rattle.type_lattice.specs.declared.types.StrPart.{StrPart}
use Rattle.type_lattice.specs.declared.types.StrPart.TheVariants as strs
use Rattle.type_lattice.specs.declared.types.ObjPart.{ObjPart}
use Rattle.type_lattice.specs.declared.types.ObjPart.TheVariants as objs
use Rattle.type_lattice.specs.declared.types.Leaf.{Leaf}
use Rattle.type_lattice.specs.declared.types.HType.{HType}
use Rattle.type_lattice.specs.Classes.{Tree, parent_of, Forest, chain_on, chain_within, has, below, nearest}
use Rattle.type_lattice.specs.Join.{int_join, short_eq, str_join, sub_or_any, obj_join, leaf_join, part_join, entry_join, join}
use Rattle.type_lattice.specs.Proper.{ProperInt, ProperStr, ProperObj, ProperLeaf, ProperKey, ProperVec, ProperDict, ProperKeyset, IsProper}
use Rattle.type_lattice.proofs.Chains.{nearest_above, has_cases}
use Rattle.type_lattice.proofs.Cycles.{forest_inside}

int_proper : (a b : IntPart) → ProperInt a → ProperInt b → ProperInt (int_join a b)
int_proper ints.No b h k = k
int_proper (ints.One x) ints.No h k = h
int_proper (ints.One x) (ints.One y) h k = go (int_eq x y)
  where
    go : (b : Bool) → ProperInt (cond b (ints.One x) ints.Any)
    go true = h
    go false = tt
int_proper (ints.One x) ints.Any h k = tt
int_proper ints.Any b h k = tt

str_proper : (a b : StrPart) → ProperStr a → ProperStr b → ProperStr (str_join a b)
str_proper strs.No b h k = k
str_proper (strs.One x) strs.No h k = h
str_proper (strs.One x) (strs.One y) h k = go (short_eq x y)
  where
    go : (b : Bool) → ProperStr (cond b (strs.One x) strs.Any)
    go true = h
    go false = tt
str_proper (strs.One x) strs.Any h k = tt
str_proper strs.Any b h k = tt

off : (a b : Bool) → a ≡ false → b ≡ false → (a || b) ≡ false
off a b h k = rw (h, k) refl

module _ (t : Tree) (forest : Forest t) where
  inside_within : (n c x : ℕ) → c < length t → IsTrue (has x (chain_within n t c)) → x < length t
  inside_within zero c x h m = go (has_cases t forest x c [] m)
    where
      go : (c ≡ x) ⊎ IsTrue false → x < length t
      go (inl e) = rw (← e) h
      go (inr w) = cc
  inside_within (suc n) c x h m = go (has_cases t forest x c (chain_on (chain_within n t) (parent_of t c)) m) (inside_within n)
    where
      up : (o : Option ℕ) → parent_of t c ≡ o → IsTrue (has x (chain_on (chain_within n t) o)) → ((c x : ℕ) → c < length t → IsTrue (has x (chain_within n t c)) → x < length t) → x < length t
      up None e w i = cc
      up (Some p) e w i = i p x (forest_inside t forest c p e) w

      go : (c ≡ x) ⊎ IsTrue (has x (chain_on (chain_within n t) (parent_of t c))) → ((c x : ℕ) → c < length t → IsTrue (has x (chain_within n t c)) → x < length t) → x < length t
      go (inl e) i = rw (← e) h
      go (inr w) i = up (parent_of t c) refl w i

  above_inside : (c x : ℕ) → c < length t → IsTrue (below t c x) → x < length t
  above_inside c x h m = inside_within (length t) c x h m

  near_inside : (c d : ℕ) → c < length t → ProperObj t (sub_or_any (nearest t c d))
  near_inside c d h = go (nearest t c d) refl
    where
      go : (o : Option ℕ) → nearest t c d ≡ o → ProperObj t (sub_or_any o)
      go None e = tt
      go (Some x) e = above_inside c x h (nearest_above t forest c d x e).0

  pub obj_proper : (a b : ObjPart) → ProperObj t a → ProperObj t b → ProperObj t (obj_join t a b)
  obj_proper objs.No b h k = k
  obj_proper (objs.Exact c) objs.No h k = h
  obj_proper (objs.Exact c) (objs.Exact d) h k = go (c == d)
    where
      go : (b : Bool) → ProperObj t (cond b (objs.Exact c) (sub_or_any (nearest t c d)))
      go true = h
      go false = near_inside c d h
  obj_proper (objs.Exact c) (objs.Sub d) h k = near_inside c d h
  obj_proper (objs.Exact c) objs.Any h k = tt
  obj_proper (objs.Sub c) objs.No h k = h
  obj_proper (objs.Sub c) (objs.Exact d) h k = near_inside c d h
  obj_proper (objs.Sub c) (objs.Sub d) h k = near_inside c d h
  obj_proper (objs.Sub c) objs.Any h k = tt
  obj_proper objs.Any b h k = tt

  pub leaf_proper : (a b : Leaf) → ProperLeaf t a → ProperLeaf t b → ProperLeaf t (leaf_join t a b)
  leaf_proper a b h k = record {
    int = int_proper a.int b.int h.int k.int;
    str = str_proper a.str b.str h.str k.str;
    obj = obj_proper a.obj b.obj h.obj k.obj;
  }

  pub key_proper : (a b : Leaf) → ProperKey a → ProperKey b → ProperKey (leaf_join t a b)
  key_proper a b h k = record {
    null = off a.null b.null h.null k.null;
    no = off a.no b.no h.no k.no;
    yes = off a.yes b.yes h.yes k.yes;
    int = int_proper a.int b.int h.int k.int;
    str = str_proper a.str b.str h.str k.str;
    obj = rw (h.obj, k.obj) refl;
    vec = off a.vec b.vec h.vec k.vec;
    dict = off a.dict b.dict h.dict k.dict;
    keyset = off a.keyset b.keyset h.keyset k.keyset;
  }

  vec_proper : (a b : Option Leaf) → ProperVec t a → ProperVec t b → ProperVec t (part_join (leaf_join t) a b)
  vec_proper None b h k = k
  vec_proper (Some a) None h k = h
  vec_proper (Some a) (Some b) h k = leaf_proper a b h k

  dict_proper : (a b : Option (Leaf × Leaf)) → ProperDict t a → ProperDict t b → ProperDict t (part_join (entry_join t) a b)
  dict_proper None b h k = k
  dict_proper (Some a) None h k = h
  dict_proper (Some a) (Some b) h k = (key_proper a.0 b.0 h.0 k.0, leaf_proper a.1 b.1 h.1 k.1)

  keyset_proper : (a b : Option Leaf) → ProperKeyset a → ProperKeyset b → ProperKeyset (part_join (leaf_join t) a b)
  keyset_proper None b h k = k
  keyset_proper (Some a) None h k = h
  keyset_proper (Some a) (Some b) h k = key_proper a b h k

  pub join_proper : (a b : HType) → IsProper t a → IsProper t b → IsProper t (join t a b)
  join_proper a b h k = record {
    int = int_proper a.int b.int h.int k.int;
    str = str_proper a.str b.str h.str k.str;
    obj = obj_proper a.obj b.obj h.obj k.obj;
    vec = vec_proper a.vec b.vec h.vec k.vec;
    dict = dict_proper a.dict b.dict h.dict k.dict;
    keyset = keyset_proper a.keyset b.keyset h.keyset k.keyset;
  }
