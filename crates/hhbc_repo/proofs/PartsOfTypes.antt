-- Parts of types: with classes numbered anew, and with the names of their classes.
use Rattle.std.proofs.Common.{◌≡◌, ℕ, Bool, true, not, ◌&&◌, List, ◌++◌, map, length, Option, Some, None, option_map, refl, sym, ap, ap₂, ◌∙◌}
use Rattle.std.proofs.lemmas.Bool.{and_parts}
use Rattle.std.proofs.lemmas.List.{length-map, map-append}
use Rattle.type_lattice.specs.declared.types.ObjPart.{ObjPart}
use Rattle.type_lattice.specs.declared.types.ObjPart.TheVariants as objs
use Rattle.type_lattice.specs.declared.types.Leaf.{Leaf}
use Rattle.type_lattice.specs.declared.types.HType.{HType}
use Rattle.type_lattice.specs.Never.{no_objs}
use Rattle.type_lattice.specs.TypeText.{class_name}
use Rattle.type_lattice.specs.InRange.{where_there, leaf_in_range, key_in_range, obj_classes, vec_classes, dict_classes, classes_of}
use Rattle.hhbc_repo.specs.LinkFaults.{Name}
use Rattle.hhbc_repo.specs.Resolved.{obj_with, leaf_with}
use Rattle.hhbc_repo.specs.WrittenTypes.{canonical_type}
use Rattle.hhbc_repo.specs.WrittenTypes as written

-- a change that a test doesn't see
pub there_same : {A : Type 0} (g : A → A) (test : A → Bool) → ((a : A) → test (g a) ≡ test a) → (o : Option A) → where_there test (option_map g o) ≡ where_there test o
there_same g test h None = refl
there_same g test h (Some a) = h a

-- ---- parts without classes

module _ (f : ℕ → ℕ) where
  no_class : (o : ObjPart) → no_objs o ≡ true → obj_with f o ≡ o
  no_class objs.No h = refl
  no_class (objs.Exact c) h = absurd (cc)
  no_class (objs.Sub c) h = absurd (cc)
  no_class objs.Any h = refl

  pub key_kept : (k : Leaf) → key_in_range k ≡ true → leaf_with f k ≡ k
  key_kept k h =
      let kinds = not k.vec && (not k.dict && not k.keyset) in
      let a = and_parts (leaf_in_range k) (not k.null && (not k.no && (not k.yes && (no_objs k.obj && kinds)))) h in
      let b = and_parts (not k.null) (not k.no && (not k.yes && (no_objs k.obj && kinds))) a.1 in
      let c = and_parts (not k.no) (not k.yes && (no_objs k.obj && kinds)) b.1 in
      let d = and_parts (not k.yes) (no_objs k.obj && kinds) c.1 in
      ap (λ (o : ObjPart). record k { obj = o }) (no_class k.obj (and_parts (no_objs k.obj) kinds d.1).0)

  pub keyset_kept : (k : Option Leaf) → where_there key_in_range k ≡ true → option_map (leaf_with f) k ≡ k
  keyset_kept None h = refl
  keyset_kept (Some l) h = ap (λ (l : Leaf). Some l) (key_kept l h)

-- ---- the names of the classes

module _ (all : List Name) where
  obj_named : (o : ObjPart) → written.obj_classes all o ≡ map (class_name all) (obj_classes o)
  obj_named objs.No = refl
  obj_named (objs.Exact c) = refl
  obj_named (objs.Sub c) = refl
  obj_named objs.Any = refl

  vec_named : (v : Option Leaf) → written.vec_classes all v ≡ map (class_name all) (vec_classes v)
  vec_named None = refl
  vec_named (Some l) = obj_named l.obj

  dict_named : (d : Option (Leaf × Leaf)) → written.dict_classes all d ≡ map (class_name all) (dict_classes d)
  dict_named None = refl
  dict_named (Some e) = obj_named e.1.obj

  pub classes_named : (t : HType) → (canonical_type all t).classes ≡ map (class_name all) (classes_of t)
  classes_named t =
      let name = class_name all in
      ap₂ (λ (x y : List Name). x ++ y) (obj_named t.obj) (ap₂ (λ (x y : List Name). x ++ y) (vec_named t.vec) (dict_named t.dict) ∙ sym (map-append name (vec_classes t.vec) (dict_classes t.dict)))
      ∙ sym (map-append name (obj_classes t.obj) (vec_classes t.vec ++ dict_classes t.dict))

  pub obj_count : (o : ObjPart) → length (written.obj_classes all o) ≡ length (obj_classes o)
  obj_count o = ap length (obj_named o) ∙ length-map (obj_classes o) (class_name all)

  pub vec_count : (v : Option Leaf) → length (written.vec_classes all v) ≡ length (vec_classes v)
  vec_count v = ap length (vec_named v) ∙ length-map (vec_classes v) (class_name all)
