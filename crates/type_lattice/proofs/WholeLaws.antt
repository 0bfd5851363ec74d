-- The type of all cells is below the types that are whole, and below no others.
use Rattle.std.proofs.Common.{◌≡◌, refl, Bool, true, ◌&&◌, Option, Some, None}
use Rattle.type_lattice.specs.declared.types.IntPart.{IntPart}
use Rattle.type_lattice.specs.declared.types.IntPart.TheVariants as ints
use Rattle.type_lattice.specs.declared.types.StrPart.{StrPart}
use Rattle.type_lattice.specs.declared.types.StrPart.TheVariants as strs
use Rattle.type_lattice.specs.declared.types.ObjPart.{ObjPart}
use Rattle.type_lattice.specs.declared.types.ObjPart.TheVariants as objs
use Rattle.type_lattice.specs.declared.types.Leaf.{Leaf}
use Rattle.type_lattice.specs.declared.types.HType.{HType}
use Rattle.type_lattice.specs.Classes.{Tree}
use Rattle.type_lattice.specs.Order.{IntLe, StrLe, ObjLe, PartLe, LeafLe, EntryLe, Le}
use Rattle.type_lattice.specs.Types.{cell, cell_leaf, key_leaf}
use Rattle.type_lattice.specs.Whole.{all_ints, all_strs, all_objs, whole_key, whole_leaf, whole_entry, part_is, is_whole}
use Rattle.type_lattice.proofs.Members.{both_true}

ints-whole : (p : IntPart) → all_ints p ≡ true → IntLe ints.Any p
ints-whole ints.No h = absurd (cc)
ints-whole (ints.One i) h = absurd (cc)
ints-whole ints.Any h = tt

strs-whole : (p : StrPart) → all_strs p ≡ true → StrLe strs.Any p
strs-whole strs.No h = absurd (cc)
strs-whole (strs.One i) h = absurd (cc)
strs-whole strs.Any h = tt

objs-whole : (tree : Tree) (p : ObjPart) → all_objs p ≡ true → ObjLe tree objs.Any p
objs-whole tree objs.No h = absurd (cc)
objs-whole tree (objs.Exact c) h = absurd (cc)
objs-whole tree (objs.Sub c) h = absurd (cc)
objs-whole tree objs.Any h = tt

whole-ints : (p : IntPart) → IntLe ints.Any p → all_ints p ≡ true
whole-ints ints.No h = absurd h
whole-ints (ints.One i) h = absurd h
whole-ints ints.Any h = refl

whole-strs : (p : StrPart) → StrLe strs.Any p → all_strs p ≡ true
whole-strs strs.No h = absurd h
whole-strs (strs.One i) h = absurd h
whole-strs strs.Any h = refl

whole-objs : (tree : Tree) (p : ObjPart) → ObjLe tree objs.Any p → all_objs p ≡ true
whole-objs tree objs.No h = absurd h
whole-objs tree (objs.Exact c) h = absurd h
whole-objs tree (objs.Sub c) h = absurd h
whole-objs tree objs.Any h = refl

nine_true : (a b c d e f g h i : Bool) → a ≡ true → b ≡ true → c ≡ true → d ≡ true → e ≡ true → f ≡ true → g ≡ true → h ≡ true → i ≡ true
    → (a && (b && (c && (d && (e && (f && (g && (h && i)))))))) ≡ true
nine_true a b c d e f g h i p q r s t u v w x = rw (p, q, r, s, t, u, v, w, x) refl

leaf-whole : (tree : Tree) (l : Leaf) → whole_leaf l ≡ true → LeafLe tree cell_leaf l
leaf-whole tree l h =
    let k1 = both_true _ _ h in
    let k2 = both_true _ _ k1.1 in
    let k3 = both_true _ _ k2.1 in
    let k4 = both_true _ _ k3.1 in
    let k5 = both_true _ _ k4.1 in
    let k6 = both_true _ _ k5.1 in
    let k7 = both_true _ _ k6.1 in
    let k8 = both_true _ _ k7.1 in
    record {
      null = k1.0;
      no = k2.0;
      yes = k3.0;
      int = ints-whole l.int k4.0;
      str = strs-whole l.str k5.0;
      obj = objs-whole tree l.obj k6.0;
      vec = k7.0;
      dict = k8.0;
      keyset = k8.1;
    }

whole-leaf : (tree : Tree) (l : Leaf) → LeafLe tree cell_leaf l → whole_leaf l ≡ true
whole-leaf tree l h =
    nine_true _ _ _ _ _ _ _ _ _ h.null h.no h.yes (whole-ints l.int h.int) (whole-strs l.str h.str) (whole-objs tree l.obj h.obj) h.vec h.dict h.keyset

key-whole : (tree : Tree) (l : Leaf) → whole_key l ≡ true → LeafLe tree key_leaf l
key-whole tree l h =
    let k = both_true _ _ h in
    record { null = tt; no = tt; yes = tt; int = ints-whole l.int k.0; str = strs-whole l.str k.1; obj = tt; vec = tt; dict = tt; keyset = tt }

whole-key : (tree : Tree) (l : Leaf) → LeafLe tree key_leaf l → whole_key l ≡ true
whole-key tree l h = rw (whole-ints l.int h.int, whole-strs l.str h.str) refl

part-whole : {A : Type 0} (R : A → A → Type 0) (test : A → Bool) (a : A) (o : Option A) → ((b : A) → test b ≡ true → R a b) → part_is test o ≡ true → PartLe R (Some a) o
part-whole R test a None f h = absurd (cc)
part-whole R test a (Some b) f h = f b h

whole-part : {A : Type 0} (R : A → A → Type 0) (test : A → Bool) (a : A) (o : Option A) → ((b : A) → R a b → test b ≡ true) → PartLe R (Some a) o → part_is test o ≡ true
whole-part R test a None f h = absurd h
whole-part R test a (Some b) f h = f b h

pub is_whole-above : (tree : Tree) (t : HType) → is_whole t ≡ true → Le tree cell t
is_whole-above tree t h =
    let k1 = both_true _ _ h in
    let k2 = both_true _ _ k1.1 in
    let k3 = both_true _ _ k2.1 in
    let k4 = both_true _ _ k3.1 in
    let k5 = both_true _ _ k4.1 in
    let k6 = both_true _ _ k5.1 in
    let k7 = both_true _ _ k6.1 in
    let k8 = both_true _ _ k7.1 in
    record {
      uninit = tt;
      null = k1.0;
      no = k2.0;
      yes = k3.0;
      int = ints-whole t.int k4.0;
      str = strs-whole t.str k5.0;
      obj = objs-whole tree t.obj k6.0;
      vec = part-whole (LeafLe tree) whole_leaf cell_leaf t.vec (leaf-whole tree) k7.0;
      dict = part-whole (EntryLe tree) whole_entry (key_leaf, cell_leaf) t.dict (λ e w. let k = both_true _ _ w in (key-whole tree e.0 k.0, leaf-whole tree e.1 k.1)) k8.0;
      keyset = part-whole (LeafLe tree) whole_key key_leaf t.keyset (key-whole tree) k8.1;
    }

pub above-is_whole : (tree : Tree) (t : HType) → Le tree cell t → is_whole t ≡ true
above-is_whole tree t h =
    nine_true _ _ _ _ _ _ _ _ _ h.null h.no h.yes (whole-ints t.int h.int) (whole-strs t.str h.str) (whole-objs tree t.obj h.obj)
    (whole-part (LeafLe tree) whole_leaf cell_leaf t.vec (whole-leaf tree) h.vec)
    (whole-part (EntryLe tree) whole_entry (key_leaf, cell_leaf) t.dict (λ e w. rw (whole-key tree e.0 w.0, whole-leaf tree e.1 w.1) refl) h.dict)
    (whole-part (LeafLe tree) whole_key key_leaf t.keyset (whole-key tree) h.keyset)
