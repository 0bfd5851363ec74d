-- What is of a type stays so as the heap grows.
use Rattle.std.proofs.Common.{◌≡◌, ◌⊎◌, inl, inr, ℕ, zero, suc, refl, Bool, true, false, Option, Some, None, List, [], ◌∷◌, ◌++◌, slice_get, length}
use Rattle.std.specs.List.{list_all}
use Rattle.std.specs.Map.{keys_of, values_of}
use Rattle.hack_values.specs.View.{cells_of}
use Rattle.hack_values.specs.declared.key.Key.{Key}
use Rattle.hack_values.specs.declared.cell.Cell.{Cell}
use Rattle.hack_values.specs.declared.cell.Cell.TheVariants as cells
use Rattle.hack_values.specs.declared.cell.Slot.{Slot}
use Rattle.hack_values.specs.declared.cell.Slot.TheVariants as slots
use Rattle.hack_values.specs.declared.heap.Object.{Object}
use Rattle.type_lattice.specs.declared.types.ObjPart.{ObjPart}
use Rattle.type_lattice.specs.declared.types.ObjPart.TheVariants as objs
use Rattle.type_lattice.specs.declared.types.Leaf.{Leaf}
use Rattle.type_lattice.specs.declared.types.HType.{HType}
use Rattle.type_lattice.specs.Classes.{Tree}
use Rattle.type_lattice.specs.Member.{Heap, class_at, obj_in, in_leaf, vec_in, dict_in, key_in, cell_in, AreMembers}
use Rattle.type_lattice.proofs.Members.{both_true}
use Rattle.hhbc_semantics.specs.Growth.{HeapGrows}

each_still : {A : Type 0} (p q : A → Bool) (xs : List A) → ((x : A) → p x ≡ true → q x ≡ true) → list_all p xs ≡ true → list_all q xs ≡ true
each_still p q [] h m = refl
each_still p q (x ∷ xs) h m = let e = both_true _ _ m in rw (h x e.0) (each_still p q xs h e.1)

obj_still : (tree : Tree) (d e : Option ℕ) (p : ObjPart) → ((c : ℕ) → d ≡ Some c → e ≡ Some c) → obj_in tree d p ≡ true → obj_in tree e p ≡ true
obj_still tree d e objs.No g m = absurd (cc)
obj_still tree d e objs.Any g m = refl
obj_still tree None e (objs.Exact c) g m = absurd (cc)
obj_still tree (Some b) e (objs.Exact c) g m = rw (g b refl) m
obj_still tree None e (objs.Sub c) g m = absurd (cc)
obj_still tree (Some b) e (objs.Sub c) g m = rw (g b refl) m

module _ (tree : Tree) (h k : Heap) (g : HeapGrows h k) where
  leaf_still : (l : Leaf) (c : Cell) → in_leaf tree h l c ≡ true → in_leaf tree k l c ≡ true
  leaf_still l cells.Null m = m
  leaf_still l (cells.Bool true) m = m
  leaf_still l (cells.Bool false) m = m
  leaf_still l (cells.Int i) m = m
  leaf_still l (cells.Str s) m = m
  leaf_still l (cells.Vec items) m = m
  leaf_still l (cells.Dict entries) m = m
  leaf_still l (cells.Keyset elements) m = m
  leaf_still l (cells.Obj n) m = obj_still tree (class_at h n) (class_at k n) l.obj (g n) m

  vec_still : (o : Option Leaf) (items : List Cell) → vec_in tree h o items ≡ true → vec_in tree k o items ≡ true
  vec_still None items m = m
  vec_still (Some l) items m = each_still _ _ items (leaf_still l) m

  dict_still : (o : Option (Leaf × Leaf)) (ks : List Key) (items : List Cell) → dict_in tree h o ks items ≡ true → dict_in tree k o ks items ≡ true
  dict_still None ks items m = m
  dict_still (Some e) ks items m =
      let p = both_true (list_all (key_in e.0) ks) (list_all (in_leaf tree h e.1) items) m in
      rw (p.0, each_still (in_leaf tree h e.1) (in_leaf tree k e.1) items (leaf_still e.1) p.1) refl

  pub cell_in-grows : (c : Cell) (t : HType) → cell_in tree h c t ≡ true → cell_in tree k c t ≡ true
  cell_in-grows cells.Null t m = m
  cell_in-grows (cells.Bool true) t m = m
  cell_in-grows (cells.Bool false) t m = m
  cell_in-grows (cells.Int i) t m = m
  cell_in-grows (cells.Str s) t m = m
  cell_in-grows (cells.Vec items) t m = vec_still t.vec (cells_of items) m
  cell_in-grows (cells.Dict entries) t m = dict_still t.dict (keys_of entries) (cells_of (values_of entries)) m
  cell_in-grows (cells.Keyset elements) t m = m
  cell_in-grows (cells.Obj n) t m = obj_still tree (class_at h n) (class_at k n) t.obj (g n) m

  pub AreMembers-grows : (ss : List Slot) (ts : List HType) → AreMembers tree h ss ts → AreMembers tree k ss ts
  AreMembers-grows [] [] m = m
  AreMembers-grows [] (t ∷ ts) m = absurd m
  AreMembers-grows (s ∷ ss) [] m = absurd m
  AreMembers-grows (slots.Uninit ∷ ss) (t ∷ ts) m = (m.0, AreMembers-grows ss ts m.1)
  AreMembers-grows (slots.Cell c ∷ ss) (t ∷ ts) m = (cell_in-grows c t m.0, AreMembers-grows ss ts m.1)

-- a heap with more objects behind it
pub append_grows : (h more : Heap) → HeapGrows h (h ++ more)
append_grows [] more n c e = absurd (cc)
append_grows (o ∷ h) more zero c e = e
append_grows (o ∷ h) more (suc n) c e = append_grows h more n c e

-- the object behind a heap
pub appended_class : (h : Heap) (o : Object) → class_at (h ++ o ∷ []) (length h) ≡ Some o.class
appended_class [] o = refl
appended_class (x ∷ h) o = appended_class h o

-- an object of a heap with one behind it is one of the heap or that one
pub appended_is : (h : Heap) (o x : Object) (n : ℕ) → slice_get (h ++ o ∷ []) n ≡ Some x → (slice_get h n ≡ Some x) ⊎ (o ≡ x)
appended_is [] o x zero e = inr (cc)
appended_is [] o x (suc n) e = absurd (cc)
appended_is (y ∷ h) o x zero e = inl e
appended_is (y ∷ h) o x (suc n) e = appended_is h o x n e
