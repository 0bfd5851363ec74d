-- Types whose classes are numbers of a repository's, with the names of these classes: they fit, pass the checks of linking and link to
-- the same types.
use Rattle.std.proofs.Common.{◌≡◌, ◌<◌, ◌^◌, ℕ, zero, suc, ◌+◌, ◌-◌, Bool, true, false, not, ◌&&◌, ◌||◌, ◌==◌, nat_lt, List, [], ◌∷◌, ◌++◌, map, flat_map, length, Option, Some, None, option_map, is_some, refl, sym, ap, ap₂, ◌∙◌, arith, append_assoc, length-append, cond}
use Rattle.std.specs.List.{list_all}
use Rattle.std.specs.Str.{bytes_eq}
use Rattle.std.proofs.lemmas.Bool.{and_from, and_parts, or_parts, not-true, le-leb, leb-true}
use Rattle.std.proofs.lemmas.List.{append-nil, length-map}
use Rattle.std.proofs.lemmas.List.Folds.{list_any-append}
use Rattle.std.proofs.lemmas.Option.{slice_get-map}
use Rattle.std.proofs.lemmas.Slice.Eq.{bytes_eq-Decides}
use Rattle.hhas_lex.specs.Spelling.{is_word}
use Rattle.type_lattice.specs.declared.types.ObjPart.{ObjPart}
use Rattle.type_lattice.specs.declared.types.ObjPart.TheVariants as objs
use Rattle.type_lattice.specs.declared.types.Leaf.{Leaf}
use Rattle.type_lattice.specs.declared.types.HType.{HType}
use Rattle.type_lattice.specs.TypeText.{class_name}
use Rattle.type_lattice.specs.InRange.{where_there, is_proper, int_in_range, str_in_range, leaf_in_range, key_in_range, entry_in_range, type_in_range, obj_classes, vec_classes, dict_classes, classes_of}
use Rattle.hhbc_repo.specs.Bodies.{numbers}
use Rattle.hhbc_repo.specs.LinkFaults.{Name, Whole, is_name, names, place_in, class_names, class_of, known, class_faults, type_faults}
use Rattle.hhbc_repo.specs.Names.{distinct, distinct_from}
use Rattle.hhbc_repo.specs.Resolved.{or_zero, named_class, class_at, obj_with, leaf_with, entry_with, type_with, resolved_type}
use Rattle.hhbc_repo.specs.TypeFits.{type_fits}
use Rattle.hhbc_repo.specs.WrittenTypes.{obj_placed, leaf_placed, entry_placed, canonical_type}
use Rattle.hhbc_repo.specs.WrittenTypes as written
use Rattle.hhbc_repo.proofs.Elements.{slice_seam}
use Rattle.hhbc_repo.proofs.Numbering.{numbers_on}
use Rattle.hhbc_repo.proofs.NumbersPut.{place_step}
use Rattle.hhbc_repo.proofs.PartsOfTypes.{there_same, key_kept, keyset_kept, classes_named, obj_count, vec_count}
use Rattle.hhbc_repo.proofs.SpelledTypes.{all_front, all_back}

-- ---- names by number

pub word_at : (all : List Name) (n : ℕ) → list_all is_word all ≡ true → nat_lt n (length all) ≡ true → is_word (class_name all n) ≡ true
word_at [] n h k = let l = leb-true (suc n) 0 k in absurd (omega (arith, l))
word_at (x ∷ xs) zero h k = (and_parts (is_word x) (list_all is_word xs) h).0
word_at (x ∷ xs) (suc n) h k =
    let l = leb-true (suc (suc n)) (suc (length xs)) k in
    word_at xs n (and_parts (is_word x) (list_all is_word xs) h).1 (le-leb (suc n) (length xs) (omega (arith, l)))

-- where names differ, each is found at its own place, and not before
numbered_place : (before all : List Name) (n : ℕ) → distinct_from before all ≡ true → n < length all
    → (names before (class_name all n) ≡ false) × (place_in all (class_name all n) ≡ Some n)
numbered_place before [] n h k = absurd (omega arith)
numbered_place before (x ∷ xs) zero h k =
    let p = and_parts (not (names before x)) (distinct_from (before ++ x ∷ []) xs) h in
    (not-true (names before x) p.0, place_step x xs x ∙ ap (λ (b : Bool). cond b (Some 0) (option_map (λ k. suc k) (place_in xs x))) ((bytes_eq-Decides x x).1 refl))
numbered_place before (x ∷ xs) (suc n) h k =
    let name = class_name xs n in
    let p = and_parts (not (names before x)) (distinct_from (before ++ x ∷ []) xs) h in
    let q = numbered_place (before ++ x ∷ []) xs n p.1 (omega arith) in
    let r = or_parts (names before name) (is_name name x || false) (sym (list_any-append (is_name name) before (x ∷ [])) ∙ q.0) in
    let other = (or_parts (is_name name x) false r.1).0 in
    (r.0, place_step x xs name ∙ ap₂ (λ (b : Bool) (o : Option ℕ). cond b (Some 0) (option_map (λ k. suc k) o)) other q.1)

pub place_of_number : (all : List Name) (n : ℕ) → distinct all ≡ true → nat_lt n (length all) ≡ true → place_in all (class_name all n) ≡ Some n
place_of_number all n h k = (numbered_place [] all n h (leb-true (suc n) (length all) k)).1

-- ---- types with the names of their classes

module _ (all : List Name) where
  abbrev called : ℕ → Name
  called c = class_name all c

  placed_range : (t : HType) → type_in_range (canonical_type all t).t ≡ type_in_range t
  placed_range t =
      let a = length (written.obj_classes all t.obj) in
      let b = a + length (written.vec_classes all t.vec) in
      ap₂ (λ (v d : Bool). int_in_range t.int && (str_in_range t.str && (v && (d && where_there key_in_range t.keyset))))
      (there_same (leaf_placed a) leaf_in_range (λ l. refl) t.vec) (there_same (entry_placed b) entry_in_range (λ e. refl) t.dict)

  obj_numbers : (n : ℕ) (o : ObjPart) → obj_classes (obj_placed n o) ≡ numbers n (length (obj_classes o))
  obj_numbers n objs.No = refl
  obj_numbers n (objs.Exact c) = refl
  obj_numbers n (objs.Sub c) = refl
  obj_numbers n objs.Any = refl

  vec_numbers : (n : ℕ) (v : Option Leaf) → vec_classes (option_map (leaf_placed n) v) ≡ numbers n (length (vec_classes v))
  vec_numbers n None = refl
  vec_numbers n (Some l) = obj_numbers n l.obj

  dict_numbers : (n : ℕ) (d : Option (Leaf × Leaf)) → dict_classes (option_map (entry_placed n) d) ≡ numbers n (length (dict_classes d))
  dict_numbers n None = refl
  dict_numbers n (Some e) = obj_numbers n e.1.obj

  -- the classes are numbered as they come
  placed_classes : (t : HType) → classes_of (canonical_type all t).t ≡ numbers 0 (length (canonical_type all t).classes)
  placed_classes t =
      let a = length (obj_classes t.obj) in
      let b = length (vec_classes t.vec) in
      let c = length (dict_classes t.dict) in
      let from_a : length (written.obj_classes all t.obj) ≡ a = obj_count all t.obj in
      let from_b : length (written.obj_classes all t.obj) + length (written.vec_classes all t.vec) ≡ a + b = ap₂ (λ (x y : ℕ). x + y) from_a (vec_count all t.vec) in
      let x : List ℕ = numbers 0 a in
      let first : a ≡ 0 + a = omega arith in
      let counted : a + (b + c) ≡ length (canonical_type all t).classes =
      ap (λ (n : ℕ). a + n) (sym (length-append (vec_classes t.vec) (dict_classes t.dict))) ∙ sym (length-append (obj_classes t.obj) (vec_classes t.vec ++ dict_classes t.dict))
      ∙ sym (length-map (classes_of t) called) ∙ ap length (sym (classes_named all t)) in
      ap₂ (λ (o v : List ℕ). o ++ v) (obj_numbers 0 t.obj)
      (ap₂ (λ (v d : List ℕ). v ++ d)
      (vec_numbers (length (written.obj_classes all t.obj)) t.vec ∙ ap (λ n. numbers n b) from_a)
      (dict_numbers (length (written.obj_classes all t.obj) + length (written.vec_classes all t.vec)) t.dict ∙ ap (λ n. numbers n c) from_b)
      ∙ numbers_on a b c)
      ∙ ap (λ n. x ++ numbers n (b + c)) first ∙ numbers_on 0 a (b + c) ∙ ap (numbers 0) counted

  called_words : list_all is_word all ≡ true → (cs : List ℕ) → list_all (λ c. nat_lt c (length all)) cs ≡ true → list_all is_word (map called cs) ≡ true
  called_words h [] k = refl
  called_words h (c ∷ cs) k =
      let p = and_parts (nat_lt c (length all)) (list_all (λ c. nat_lt c (length all)) cs) k in
      and_from (is_word (called c)) (list_all is_word (map called cs)) (word_at all c h p.0) (called_words h cs p.1)

  pub type_canonical_fits : (t : HType) → list_all is_word all ≡ true → is_proper (length all) t ≡ true → type_fits (canonical_type all t) ≡ true
  type_canonical_fits t h k =
      let u = canonical_type all t in
      let p = and_parts (type_in_range t) (list_all (λ c. nat_lt c (length all)) (classes_of t)) k in
      and_from (type_in_range u.t) (bytes_eq (classes_of u.t) (numbers 0 (length u.classes)) && list_all is_word u.classes) (placed_range t ∙ p.0)
      (and_from (bytes_eq (classes_of u.t) (numbers 0 (length u.classes))) (list_all is_word u.classes)
      ((bytes_eq-Decides (classes_of u.t) (numbers 0 (length u.classes))).1 (placed_classes t))
      (ap (list_all is_word) (classes_named all t) ∙ called_words h (classes_of t) p.1))

-- ---- in a repository whose classes have different names

module _ (w : Whole) (apart : distinct (class_names w) ≡ true) where
  abbrev listed : ℕ → Bool
  listed c = nat_lt c (length (class_names w))

  abbrev to_name : ℕ → Name
  to_name c = class_name (class_names w) c

  number_forth : (c : ℕ) → listed c ≡ true → class_of w (to_name c) ≡ Some c
  number_forth c h = place_of_number (class_names w) c apart h

  classes_known : (owner : Name) (cs : List ℕ) → list_all listed cs ≡ true → flat_map (class_faults w owner) (map to_name cs) ≡ []
  classes_known owner [] h = refl
  classes_known owner (c ∷ cs) h =
      let p = and_parts (listed c) (list_all listed cs) h in
      ap₂ (λ x y. x ++ y) (ap (λ (o : Option ℕ). known (is_some o) owner (to_name c)) (number_forth c p.0)) (classes_known owner cs p.1)

  one_forth : (all front rest : List ℕ) (c n : ℕ) → all ≡ front ++ c ∷ rest → n ≡ length front → listed c ≡ true → class_at w (map to_name all) n ≡ c
  one_forth all front rest c n e l h =
      ap₂ (λ (xs : List ℕ) (m : ℕ). class_at w (map to_name xs) m) e l
      ∙ ap (named_class w) (slice_get-map to_name (front ++ c ∷ rest) (length front) ∙ ap (option_map to_name) (slice_seam front c rest)) ∙ ap or_zero (number_forth c h)

  obj_forth : (all front rest : List ℕ) (n : ℕ) (o : ObjPart) → all ≡ front ++ (obj_classes o ++ rest) → n ≡ length front → list_all listed (obj_classes o) ≡ true
      → obj_with (class_at w (map to_name all)) (obj_placed n o) ≡ o
  obj_forth all front rest n objs.No e l h = refl
  obj_forth all front rest n (objs.Exact c) e l h = ap objs.Exact (one_forth all front rest c n e l (and_parts (listed c) true h).0)
  obj_forth all front rest n (objs.Sub c) e l h = ap objs.Sub (one_forth all front rest c n e l (and_parts (listed c) true h).0)
  obj_forth all front rest n objs.Any e l h = refl

  vec_forth : (all front rest : List ℕ) (n : ℕ) (v : Option Leaf) → all ≡ front ++ (vec_classes v ++ rest) → n ≡ length front → list_all listed (vec_classes v) ≡ true
      → option_map (leaf_with (class_at w (map to_name all))) (option_map (leaf_placed n) v) ≡ v
  vec_forth all front rest n None e l h = refl
  vec_forth all front rest n (Some v) e l h = ap (λ (o : ObjPart). Some (record v { obj = o })) (obj_forth all front rest n v.obj e l h)

  dict_forth : (all front rest : List ℕ) (n : ℕ) (d : Option (Leaf × Leaf)) → where_there entry_in_range d ≡ true → all ≡ front ++ (dict_classes d ++ rest) → n ≡ length front
      → list_all listed (dict_classes d) ≡ true → option_map (entry_with (class_at w (map to_name all))) (option_map (entry_placed n) d) ≡ d
  dict_forth all front rest n None r e l h = refl
  dict_forth all front rest n (Some d) r e l h =
      let key = key_kept (class_at w (map to_name all)) d.0 (and_parts (key_in_range d.0) (leaf_in_range d.1) r).0 in
      let value = ap (λ (o : ObjPart). record d.1 { obj = o }) (obj_forth all front rest n d.1.obj e l h) in
      λ i. Some (key i, value i)

  resolves_forth : (t : HType) → is_proper (length (class_names w)) t ≡ true → type_with (class_at w (map to_name (classes_of t))) (canonical_type (class_names w) t).t ≡ t
  resolves_forth t h =
      let vecs = where_there leaf_in_range t.vec in
      let dicts = where_there entry_in_range t.dict in
      let keysets = where_there key_in_range t.keyset in
      let p = and_parts (type_in_range t) (list_all listed (classes_of t)) h in
      let x = and_parts (int_in_range t.int) (str_in_range t.str && (vecs && (dicts && keysets))) p.0 in
      let y = and_parts (str_in_range t.str) (vecs && (dicts && keysets)) x.1 in
      let z = and_parts dicts keysets (and_parts vecs (dicts && keysets) y.1).1 in
      let all = classes_of t in
      let front = obj_classes t.obj in
      let middle = vec_classes t.vec in
      let last = dict_classes t.dict in
      let behind = all_back listed front (middle ++ last) p.1 in
      let n = length (written.obj_classes (class_names w) t.obj) in
      let m = length (written.vec_classes (class_names w) t.vec) in
      let counted : n + m ≡ length (front ++ middle) =
      ap₂ (λ (a b : ℕ). a + b) (obj_count (class_names w) t.obj) (vec_count (class_names w) t.vec) ∙ sym (length-append front middle) in
      let split : all ≡ (front ++ middle) ++ (last ++ []) = sym (append_assoc front middle last) ∙ ap (λ l. (front ++ middle) ++ l) (sym (append-nil last)) in
      let object = obj_forth all [] (middle ++ last) 0 t.obj refl refl (all_front listed front (middle ++ last) p.1) in
      let vec = vec_forth all front last n t.vec refl (obj_count (class_names w) t.obj) (all_front listed middle last behind) in
      let dict = dict_forth all (front ++ middle) [] (n + m) t.dict z.0 split counted (all_back listed middle last behind) in
      let keyset = keyset_kept (class_at w (map to_name all)) t.keyset z.1 in
      λ i. record t { obj = object i; vec = vec i; dict = dict i; keyset = keyset i }

  pub type_forth : (owner : Name) (t : HType) → is_proper (length (class_names w)) t ≡ true
      → (type_faults w owner (canonical_type (class_names w) t) ≡ []) × (resolved_type w (canonical_type (class_names w) t) ≡ t)
  type_forth owner t h =
      let p = and_parts (type_in_range t) (list_all listed (classes_of t)) h in
      let named_so = classes_named (class_names w) t in (
        ap (flat_map (class_faults w owner)) named_so ∙ classes_known owner (classes_of t) p.1,
        ap (λ (l : List Name). type_with (class_at w l) (canonical_type (class_names w) t).t) named_so ∙ resolves_forth t h,
      )
