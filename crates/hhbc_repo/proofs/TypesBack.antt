-- Types come back from the numbers of their classes, where each of their classes is there.
use Rattle.std.proofs.Common.{◌≡◌, ℕ, zero, suc, ◌+◌, true, ◌&&◌, List, [], ◌∷◌, ◌++◌, map, flat_map, length, slice_get, get_or, Option, Some, None, option_map, is_some, refl, sym, ap, ap₂, ◌∙◌, arith, append_assoc, length-append}
use Rattle.std.specs.List.{list_all}
use Rattle.std.specs.Str.{bytes_eq}
use Rattle.std.proofs.lemmas.Bool.{and_parts}
use Rattle.std.proofs.lemmas.List.{append-nil, map-append}
use Rattle.std.proofs.lemmas.List.Quantifiers.{position-Some}
use Rattle.std.proofs.lemmas.Option.{slice_get-get_or}
use Rattle.std.proofs.lemmas.Slice.Eq.{bytes_eq-Decides}
use Rattle.hhas_lex.specs.Spelling.{is_word}
use Rattle.type_lattice.specs.declared.types.ObjPart.{ObjPart}
use Rattle.type_lattice.specs.declared.types.ObjPart.TheVariants as objs
use Rattle.type_lattice.specs.declared.types.Leaf.{Leaf}
use Rattle.type_lattice.specs.declared.types.HType.{HType}
use Rattle.type_lattice.specs.TypeText.{named, class_name}
use Rattle.type_lattice.specs.InRange.{where_there, int_in_range, str_in_range, leaf_in_range, key_in_range, entry_in_range, type_in_range, obj_classes, vec_classes, dict_classes, classes_of}
use Rattle.hhbc_repo.specs.declared.link_fault.LinkKind.TheVariants as reasons
use Rattle.hhbc_repo.specs.declared.parts.TypeParts.{TypeParts}
use Rattle.hhbc_repo.specs.Bodies.{numbers}
use Rattle.hhbc_repo.specs.LinkFaults.{Name, Whole, is_name, names, place_in, class_names, class_of, class_faults, type_faults, stated_faults}
use Rattle.hhbc_repo.specs.Resolved.{or_zero, named_class, class_at, class_number, obj_with, leaf_with, entry_with, type_with, resolved_type}
use Rattle.hhbc_repo.specs.TypeFits.{type_fits}
use Rattle.hhbc_repo.specs.WrittenTypes.{obj_placed, leaf_placed, entry_placed, canonical_type}
use Rattle.hhbc_repo.specs.WrittenTypes as written
use Rattle.hhbc_repo.proofs.Elements.{slice_seam}
use Rattle.hhbc_repo.proofs.NoFaults.{empty_left, empty_right, passes}
use Rattle.hhbc_repo.proofs.NumbersPut.{same_name, found_names, absent_names}
use Rattle.hhbc_repo.proofs.PartsOfTypes.{key_kept, keyset_kept}

-- ---- names that are there

-- the name at the place where it is found
pub name_at_place : (all : List Name) (name : Name) (i : ℕ) → place_in all name ≡ Some i → slice_get all i ≡ Some name
name_at_place all name i e =
    let p = position-Some (is_name name) all i [] e in
    slice_get-get_or all i [] p.0 ∙ ap (λ (n : Name). Some n) (sym (same_name name (get_or all i []) p.1))

-- a name comes back from its number
pub name_back : (all : List Name) (name : Name) → names all name ≡ true → class_name all (or_zero (place_in all name)) ≡ name
name_back all name h = go (place_in all name) refl
  where
    go : (o : Option ℕ) → place_in all name ≡ o → class_name all (or_zero o) ≡ name
    go None e = absurd (let f = absent_names all name e in (cc))
    go (Some n) e = ap named (name_at_place all name n e)

pub class_back : (w : Whole) (owner name : Name) → class_faults w owner name ≡ [] → class_name (class_names w) (class_number w name) ≡ name
class_back w owner name e = name_back (class_names w) name (sym (found_names (class_names w) name) ∙ passes (is_some (class_of w name)) reasons.UnknownName owner name 0 e)

-- ---- numbers that follow each other

behind_numbers : (xs ys : List ℕ) (s n : ℕ) → xs ++ ys ≡ numbers s n → (m : ℕ) × (ys ≡ numbers (s + length xs) m)
behind_numbers [] ys s n e = let k : s ≡ s + 0 = omega arith in (n, e ∙ ap (λ (a : ℕ). numbers a n) k)
behind_numbers (x ∷ xs) ys s zero e = absurd (cc)
behind_numbers (x ∷ xs) ys s (suc n) e =
    let r = behind_numbers xs ys (suc s) n (cc) in
    let k : suc s + length xs ≡ s + suc (length xs) = omega arith in
    (r.0, r.1 ∙ ap (λ (a : ℕ). numbers a r.0) k)

first_number : (x : ℕ) (xs : List ℕ) (s n : ℕ) → x ∷ xs ≡ numbers s n → s ≡ x
first_number x xs s zero e = absurd (cc)
first_number x xs s (suc n) e = cc

-- ---- types with classes numbered anew, and as they come

module _ (f : ℕ → ℕ) where
  objs_back : (o : ObjPart) (rest : List ℕ) (s n : ℕ) → obj_classes o ++ rest ≡ numbers s n → obj_placed s (obj_with f o) ≡ o
  objs_back objs.No rest s n e = refl
  objs_back (objs.Exact c) rest s n e = ap objs.Exact (first_number c rest s n e)
  objs_back (objs.Sub c) rest s n e = ap objs.Sub (first_number c rest s n e)
  objs_back objs.Any rest s n e = refl

  leaf_back : (l : Leaf) (rest : List ℕ) (s n : ℕ) → obj_classes l.obj ++ rest ≡ numbers s n → leaf_placed s (leaf_with f l) ≡ l
  leaf_back l rest s n e = ap (λ (o : ObjPart). record l { obj = o }) (objs_back l.obj rest s n e)

  vec_back : (v : Option Leaf) (rest : List ℕ) (s n : ℕ) → vec_classes v ++ rest ≡ numbers s n → option_map (leaf_placed s) (option_map (leaf_with f) v) ≡ v
  vec_back None rest s n e = refl
  vec_back (Some l) rest s n e = ap (λ (l : Leaf). Some l) (leaf_back l rest s n e)

  entry_back : (e : Leaf × Leaf) (s n : ℕ) → entry_in_range e ≡ true → obj_classes e.1.obj ≡ numbers s n → entry_placed s (entry_with f e) ≡ e
  entry_back e s n h k =
      let p = key_kept f e.0 (and_parts (key_in_range e.0) (leaf_in_range e.1) h).0 in
      let q = leaf_back e.1 [] s n (append-nil (obj_classes e.1.obj) ∙ k) in
      λ i. (p i, q i)

  dict_back : (d : Option (Leaf × Leaf)) (s n : ℕ) → where_there entry_in_range d ≡ true → dict_classes d ≡ numbers s n → option_map (entry_placed s) (option_map (entry_with f) d) ≡ d
  dict_back None s n h k = refl
  dict_back (Some e) s n h k = ap (λ (e : Leaf × Leaf). Some e) (entry_back e s n h k)

  -- ---- the names of the classes

  module _ (all : List Name) where
    obj_named : (o : ObjPart) → written.obj_classes all (obj_with f o) ≡ map (λ (c : ℕ). class_name all (f c)) (obj_classes o)
    obj_named objs.No = refl
    obj_named (objs.Exact c) = refl
    obj_named (objs.Sub c) = refl
    obj_named objs.Any = refl

    vec_named : (v : Option Leaf) → written.vec_classes all (option_map (leaf_with f) v) ≡ map (λ (c : ℕ). class_name all (f c)) (vec_classes v)
    vec_named None = refl
    vec_named (Some l) = obj_named l.obj

    dict_named : (d : Option (Leaf × Leaf)) → written.dict_classes all (option_map (entry_with f) d) ≡ map (λ (c : ℕ). class_name all (f c)) (dict_classes d)
    dict_named None = refl
    dict_named (Some e) = obj_named e.1.obj

    type_named : (t : HType) → (canonical_type all (type_with f t)).classes ≡ map (λ (c : ℕ). class_name all (f c)) (classes_of t)
    type_named t =
        let g = λ (c : ℕ). class_name all (f c) in
        ap₂ (λ (x y : List Name). x ++ y) (obj_named t.obj)
        (ap₂ (λ (x y : List Name). x ++ y) (vec_named t.vec) (dict_named t.dict) ∙ sym (map-append g (vec_classes t.vec) (dict_classes t.dict)))
        ∙ sym (map-append g (obj_classes t.obj) (vec_classes t.vec ++ dict_classes t.dict))

    obj_count : (o : ObjPart) → length (obj_classes o) ≡ length (written.obj_classes all (obj_with f o))
    obj_count objs.No = refl
    obj_count (objs.Exact c) = refl
    obj_count (objs.Sub c) = refl
    obj_count objs.Any = refl

    vec_count : (v : Option Leaf) → length (vec_classes v) ≡ length (written.vec_classes all (option_map (leaf_with f) v))
    vec_count None = refl
    vec_count (Some l) = obj_count l.obj

    -- a type whose classes are numbered as they come
    type_placed : (t : HType) (n : ℕ) → type_in_range t ≡ true → classes_of t ≡ numbers 0 n → (canonical_type all (type_with f t)).t ≡ t
    type_placed t n h e =
        let vecs = where_there leaf_in_range t.vec in
        let dicts = where_there entry_in_range t.dict in
        let keysets = where_there key_in_range t.keyset in
        let x = and_parts (int_in_range t.int) (str_in_range t.str && (vecs && (dicts && keysets))) h in
        let y = and_parts (str_in_range t.str) (vecs && (dicts && keysets)) x.1 in
        let z = and_parts dicts keysets (and_parts vecs (dicts && keysets) y.1).1 in
        let a = length (written.obj_classes all (obj_with f t.obj)) in
        let b = a + length (written.vec_classes all (option_map (leaf_with f) t.vec)) in
        let m = behind_numbers (obj_classes t.obj) (vec_classes t.vec ++ dict_classes t.dict) 0 n e in
        let to_a : 0 + length (obj_classes t.obj) ≡ a = let c = obj_count t.obj in omega (arith, c) in
        let from_a : vec_classes t.vec ++ dict_classes t.dict ≡ numbers a m.0 = m.1 ∙ ap (λ (k : ℕ). numbers k m.0) to_a in
        let l = behind_numbers (vec_classes t.vec) (dict_classes t.dict) a m.0 from_a in
        let to_b : a + length (vec_classes t.vec) ≡ b = ap (λ (k : ℕ). a + k) (vec_count t.vec) in
        let from_b : dict_classes t.dict ≡ numbers b l.0 = l.1 ∙ ap (λ (k : ℕ). numbers k l.0) to_b in
        let objects = objs_back t.obj (vec_classes t.vec ++ dict_classes t.dict) 0 n e in
        let vec = vec_back t.vec (dict_classes t.dict) a m.0 from_a in
        let dict = dict_back t.dict b l.0 z.0 from_b in
        let keyset = keyset_kept f t.keyset z.1 in
        λ i. record t { obj = objects i; vec = vec i; dict = dict i; keyset = keyset i }

-- ---- in a repository

module _ (w : Whole) (owner : Name) where
  -- the names of a list come back from their places in it
  listed_back : (front more : List Name) → flat_map (class_faults w owner) more ≡ []
      → map (λ (c : ℕ). class_name (class_names w) (class_at w (front ++ more) c)) (numbers (length front) (length more)) ≡ more
  listed_back front [] h = refl
  listed_back front (n ∷ more) h =
      let first : class_name (class_names w) (class_at w (front ++ n ∷ more) (length front)) ≡ n =
      ap (λ (o : Option Name). class_name (class_names w) (named_class w o)) (slice_seam front n more) ∙ class_back w owner n (empty_left (class_faults w owner n) (flat_map (class_faults w owner) more) h) in
      let next = listed_back (front ++ n ∷ []) more (empty_right (class_faults w owner n) (flat_map (class_faults w owner) more) h) in
      let longer : length (front ++ n ∷ []) ≡ suc (length front) = let k = length-append front (n ∷ []) in omega (arith, k) in
      let rest : map (λ (c : ℕ). class_name (class_names w) (class_at w (front ++ n ∷ more) c)) (numbers (suc (length front)) (length more)) ≡ more =
      sym (ap₂ (λ (l : List Name) (k : ℕ). map (λ (c : ℕ). class_name (class_names w) (class_at w l c)) (numbers k (length more))) (append_assoc front (n ∷ []) more) longer) ∙ next in
      ap₂ (λ (x : Name) (xs : List Name). x ∷ xs) first rest

  pub type_back : (t : TypeParts) → type_fits t ≡ true → type_faults w owner t ≡ [] → canonical_type (class_names w) (resolved_type w t) ≡ t
  type_back t h e =
      let f = class_at w t.classes in
      let a = and_parts (type_in_range t.t) (bytes_eq (classes_of t.t) (numbers 0 (length t.classes)) && list_all is_word t.classes) h in
      let b = and_parts (bytes_eq (classes_of t.t) (numbers 0 (length t.classes))) (list_all is_word t.classes) a.1 in
      let are : classes_of t.t ≡ numbers 0 (length t.classes) = (bytes_eq-Decides (classes_of t.t) (numbers 0 (length t.classes))).0 b.0 in
      let placed = type_placed f (class_names w) t.t (length t.classes) a.0 are in
      let listed = type_named f (class_names w) t.t ∙ ap (map (λ (c : ℕ). class_name (class_names w) (f c))) are ∙ listed_back [] t.classes e in
      λ i. record { t = placed i; classes = listed i }

  pub stated_back : (o : Option TypeParts) → where_there type_fits o ≡ true → stated_faults w owner o ≡ [] → option_map (canonical_type (class_names w)) (option_map (resolved_type w) o) ≡ o
  stated_back None h e = refl
  stated_back (Some t) h e = ap (λ (t : TypeParts). Some t) (type_back t h e)
