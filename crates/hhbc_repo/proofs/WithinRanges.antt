-- What a body of parts that fit links to keeps to its ranges, where no check fails.
use Rattle.std.proofs.Common.{◌≡◌, ◌≤◌, ℕ, suc, Bool, true, not, ◌&&◌, ◌||◌, nat_le, nat_lt, List, [], ◌∷◌, ◌++◌, map, flat_map, length, Option, Some, None, option_map, is_some, refl, sym, ap, ap₂, ◌∙◌, arith, append_assoc, length-append}
use Rattle.std.specs.List.{list_all, list_any}
use Rattle.std.specs.Str.{bytes_eq}
use Rattle.std.proofs.lemmas.Bool.{and_from, and_parts, le-leb}
use Rattle.std.proofs.lemmas.List.{length-map, map-append}
use Rattle.std.proofs.lemmas.Slice.Eq.{bytes_eq-Decides}
use Rattle.hhas_lex.specs.Spelling.{is_word}
use Rattle.hhbc_ops.specs.declared.op.Op.{Op}
use Rattle.hhbc_ops.specs.declared.op.Op.TheVariants as ops
use Rattle.hhbc_ops.specs.declared.words.ImmKind.{ImmKind}
use Rattle.hhbc_ops.specs.declared.words.ImmKind.TheVariants as kinds
use Rattle.hhbc_ops.specs.Ops.{kinds_of}
use Rattle.type_lattice.specs.declared.types.ObjPart.{ObjPart}
use Rattle.type_lattice.specs.declared.types.ObjPart.TheVariants as objs
use Rattle.type_lattice.specs.declared.types.Leaf.{Leaf}
use Rattle.type_lattice.specs.declared.types.HType.{HType}
use Rattle.type_lattice.specs.Never.{no_ints, no_strs, no_objs, is_absent, is_never}
use Rattle.type_lattice.specs.Whole.{all_ints, all_strs, all_objs, whole_leaf, whole_key}
use Rattle.type_lattice.specs.InRange.{where_there, is_proper, int_in_range, str_in_range, leaf_in_range, key_in_range, entry_in_range, type_in_range, obj_classes, vec_classes, dict_classes, classes_of}
use Rattle.type_lattice.specs.Keep.{agree, no_one_int, no_one_str, no_one_class, is_all_keys, is_all_entries, is_constraint}
use Rattle.hhbc_repo.specs.declared.parts.ArmParts.{ArmParts}
use Rattle.hhbc_repo.specs.declared.parts.AssertParts.{AssertParts}
use Rattle.hhbc_repo.specs.declared.parts.AssertParts.TheVariants as claims
use Rattle.hhbc_repo.specs.declared.parts.BaseParts.{BaseParts}
use Rattle.hhbc_repo.specs.declared.parts.BaseParts.TheVariants as bases
use Rattle.hhbc_repo.specs.declared.parts.BodyParts.{BodyParts}
use Rattle.hhbc_repo.specs.declared.parts.CodeParts.{CodeParts}
use Rattle.hhbc_repo.specs.declared.parts.CodeParts.TheVariants as forms
use Rattle.hhbc_repo.specs.declared.parts.FinalParts.{FinalParts}
use Rattle.hhbc_repo.specs.declared.parts.FinalParts.TheVariants as finals
use Rattle.hhbc_repo.specs.declared.parts.ImmParts.{ImmParts}
use Rattle.hhbc_repo.specs.declared.parts.ImmParts.TheVariants as imms
use Rattle.hhbc_repo.specs.declared.parts.ItemParts.{ItemParts}
use Rattle.hhbc_repo.specs.declared.parts.ItemParts.TheVariants as items
use Rattle.hhbc_repo.specs.declared.parts.MemberKeyParts.{MemberKeyParts}
use Rattle.hhbc_repo.specs.declared.parts.MemberKeyParts.TheVariants as keys
use Rattle.hhbc_repo.specs.declared.parts.PositionParts.{PositionParts}
use Rattle.hhbc_repo.specs.declared.parts.TypeParts.{TypeParts}
use Rattle.hhbc_repo.specs.declared.link_fault.LinkKind.TheVariants as reasons
use Rattle.hhbc_repo.specs.Bodies.{bodies, numbers}
use Rattle.hhbc_repo.specs.declared.parts.ClassParts.{ClassParts}
use Rattle.hhbc_repo.specs.CodeSyntax as parts
use Rattle.hhbc_repo.specs.LinkFaults.{Name, Whole, Place, names, place_in, dollar, class_names, class_of, known, locals_of, position_in, local_faults, class_faults, type_faults, stated_faults, assert_faults, key_local, operand_faults, instruction_faults, key_faults, base_faults, last_key, code_faults, position_faults, body_faults, faults}
use Rattle.hhbc_repo.specs.Names.{distinct}
use Rattle.hhbc_repo.specs.Resolved.{or_zero, named_class, class_at, obj_with, leaf_with, entry_with, type_with, resolved_type, local_number, label_number, class_number, resolved_assert, resolved_arm, resolved_operand, resolved_base, resolved_key, resolved_final, resolved_code, resolved_position, resolved_item, resolved_body, resolved}
use Rattle.hhbc_repo.specs.TypeFits.{type_fits, constraint_fits}
use Rattle.hhbc_repo.specs.Fits.{is_index, is_label, has_no_text, has_text, arm_fits, text_arm_fits, arms_fit, text_arms_fit, operand_fits, operands_fit, base_fits, key_fits, query_key_fits, set_key_fits, change_key_fits, final_fits, code_fits, assert_fits, position_fits, item_fits, body_fits, class_fits, parts_fit}
use Rattle.hhbc_repo.specs.Ranges.{few_iterators}
use Rattle.hhbc_repo.specs.Within.{Bounds, bounds_of, constraint_within, target_within, arm_within, text_arm_within, arms_within, text_arms_within, local_within, operand_within, operands_within, base_within, key_within, appends, is_nullsafe, is_query, query_key_within, set_key_within, change_key_within, final_within, code_within, assert_within, position_within, in_limits, body_within}
use Rattle.hhbc_repo.proofs.NoFaults.{empty_left, empty_right, passes, differ, constant_class, method_class, faultless, passed}
use Rattle.hhbc_repo.proofs.CanonicalItems.{label_among, linked_positions}
use Rattle.hhbc_repo.proofs.Elements.{slice_seam}
use Rattle.hhbc_repo.proofs.NumbersPut.{absent_names, place_inside}
use Rattle.hhbc_repo.proofs.PartsOfTypes.{there_same}
use Rattle.hhbc_repo.proofs.PartsThatFit.{body_facts, class_facts}
use Rattle.hhbc_repo.proofs.SpelledTypes.{all_both}
use Rattle.hhbc_repo.proofs.BodiesPass.{all_pass}
use Rattle.hhbc_repo.proofs.WithinLimits.{limits_hold}

-- ---- names that are there

named_within : (all : List Name) (name : Name) → names all name ≡ true → nat_lt (or_zero (place_in all name)) (length all) ≡ true
named_within all name h = go (place_in all name) refl
  where
    go : (o : Option ℕ) → place_in all name ≡ o → nat_lt (or_zero o) (length all) ≡ true
    go None e = absurd (let f = absent_names all name e in (cc))
    go (Some n) e = le-leb (suc n) (length all) (place_inside all name n e)

class_there : (w : Whole) (owner name : Name) → class_faults w owner name ≡ [] → nat_lt (class_number w name) (length (class_names w)) ≡ true
class_there w owner name h = go (class_of w name) refl (passes (is_some (class_of w name)) reasons.UnknownName owner name 0 h)
  where
    go : (o : Option ℕ) → class_of w name ≡ o → is_some o ≡ true → nat_lt (or_zero o) (length (class_names w)) ≡ true
    go None e t = absurd (cc)
    go (Some n) e t = le-leb (suc n) (length (class_names w)) (place_inside (class_names w) name n e)

-- ---- positions that are linked

positions_linked : (w : Whole) (b : BodyParts) (is : List ItemParts) → length (flat_map (resolved_item w b) is) ≡ length (flat_map position_in is)
positions_linked w b is = ap length (linked_positions w b is) ∙ length-map (flat_map position_in is) (resolved_position w b)

-- ---- types with classes numbered anew

module _ (f : ℕ → ℕ) where
  obj_renumbered : (o : ObjPart) → obj_classes (obj_with f o) ≡ map f (obj_classes o)
  obj_renumbered objs.No = refl
  obj_renumbered (objs.Exact c) = refl
  obj_renumbered (objs.Sub c) = refl
  obj_renumbered objs.Any = refl

  vec_renumbered : (v : Option Leaf) → vec_classes (option_map (leaf_with f) v) ≡ map f (vec_classes v)
  vec_renumbered None = refl
  vec_renumbered (Some l) = obj_renumbered l.obj

  dict_renumbered : (d : Option (Leaf × Leaf)) → dict_classes (option_map (entry_with f) d) ≡ map f (dict_classes d)
  dict_renumbered None = refl
  dict_renumbered (Some e) = obj_renumbered e.1.obj

  renumbered : (t : HType) → classes_of (type_with f t) ≡ map f (classes_of t)
  renumbered t =
      ap₂ (λ (x y : List ℕ). x ++ y) (obj_renumbered t.obj) (ap₂ (λ (x y : List ℕ). x ++ y) (vec_renumbered t.vec) (dict_renumbered t.dict) ∙ sym (map-append f (vec_classes t.vec) (dict_classes t.dict)))
      ∙ sym (map-append f (obj_classes t.obj) (vec_classes t.vec ++ dict_classes t.dict))

  no_objs_same : (o : ObjPart) → no_objs (obj_with f o) ≡ no_objs o
  no_objs_same objs.No = refl
  no_objs_same (objs.Exact c) = refl
  no_objs_same (objs.Sub c) = refl
  no_objs_same objs.Any = refl

  all_objs_same : (o : ObjPart) → all_objs (obj_with f o) ≡ all_objs o
  all_objs_same objs.No = refl
  all_objs_same (objs.Exact c) = refl
  all_objs_same (objs.Sub c) = refl
  all_objs_same objs.Any = refl

  no_one_same : (o : ObjPart) → no_one_class (obj_with f o) ≡ no_one_class o
  no_one_same objs.No = refl
  no_one_same (objs.Exact c) = refl
  no_one_same (objs.Sub c) = refl
  no_one_same objs.Any = refl

  key_same : (l : Leaf) → key_in_range (leaf_with f l) ≡ key_in_range l
  key_same l = ap (λ (c : Bool). leaf_in_range l && (not l.null && (not l.no && (not l.yes && (c && (not l.vec && (not l.dict && not l.keyset))))))) (no_objs_same l.obj)

  whole_same : (l : Leaf) → whole_leaf (leaf_with f l) ≡ whole_leaf l
  whole_same l = ap (λ (c : Bool). l.null && (l.no && (l.yes && (all_ints l.int && (all_strs l.str && (c && (l.vec && (l.dict && l.keyset)))))))) (all_objs_same l.obj)

  absent_same : {A : Type 0} (g : A → A) (o : Option A) → is_absent (option_map g o) ≡ is_absent o
  absent_same g None = refl
  absent_same g (Some a) = refl

  range_same : (t : HType) → type_in_range (type_with f t) ≡ type_in_range t
  range_same t =
      let rest = λ (v d k : Bool). int_in_range t.int && (str_in_range t.str && (v && (d && k))) in
      let v = there_same (leaf_with f) leaf_in_range (λ l. refl) t.vec in
      let d = there_same (entry_with f) entry_in_range (λ e. ap (λ c. c && leaf_in_range e.1) (key_same e.0)) t.dict in
      let k = there_same (leaf_with f) key_in_range key_same t.keyset in
      ap (λ c. rest c (where_there entry_in_range (option_map (entry_with f) t.dict)) (where_there key_in_range (option_map (leaf_with f) t.keyset))) v
      ∙ ap (λ c. rest (where_there leaf_in_range t.vec) c (where_there key_in_range (option_map (leaf_with f) t.keyset))) d
      ∙ ap (λ c. rest (where_there leaf_in_range t.vec) (where_there entry_in_range t.dict) c) k

  never_same : (t : HType) → is_never (type_with f t) ≡ is_never t
  never_same t =
      let rest = λ (o v d k : Bool). not t.uninit && (not t.null && (not t.no && (not t.yes && (no_ints t.int && (no_strs t.str && (o && (v && (d && k)))))))) in
      let v = absent_same (leaf_with f) t.vec in
      let d = absent_same (entry_with f) t.dict in
      let k = absent_same (leaf_with f) t.keyset in
      ap (λ c. rest c (is_absent (option_map (leaf_with f) t.vec)) (is_absent (option_map (entry_with f) t.dict)) (is_absent (option_map (leaf_with f) t.keyset))) (no_objs_same t.obj)
      ∙ ap (λ c. rest (no_objs t.obj) c (is_absent (option_map (entry_with f) t.dict)) (is_absent (option_map (leaf_with f) t.keyset))) v
      ∙ ap (λ c. rest (no_objs t.obj) (is_absent t.vec) c (is_absent (option_map (leaf_with f) t.keyset))) d
      ∙ ap (λ c. rest (no_objs t.obj) (is_absent t.vec) (is_absent t.dict) c) k

  all_keys_same : (l : Leaf) → is_all_keys (leaf_with f l) ≡ is_all_keys l
  all_keys_same l =
      ap (λ (c : Bool). (not l.null && (not l.no && (not l.yes && (c && (not l.vec && (not l.dict && not l.keyset)))))) && whole_key l) (no_objs_same l.obj)

  constraint_same : (t : HType) → is_constraint (type_with f t) ≡ is_constraint t
  constraint_same t =
      let rest = λ (o v d k n : Bool). not t.uninit && (agree t.no t.yes && (no_one_int t.int && (no_one_str t.str && (o && (v && (d && (k && not n))))))) in
      let u = type_with f t in
      let v = there_same (leaf_with f) whole_leaf whole_same t.vec in
      let d = there_same (entry_with f) is_all_entries (λ e. ap₂ (λ (a b : Bool). a && b) (all_keys_same e.0) (whole_same e.1)) t.dict in
      let k = there_same (leaf_with f) is_all_keys all_keys_same t.keyset in
      ap (λ c. rest c (where_there whole_leaf u.vec) (where_there is_all_entries u.dict) (where_there is_all_keys u.keyset) (is_never u)) (no_one_same t.obj)
      ∙ ap (λ c. rest (no_one_class t.obj) c (where_there is_all_entries u.dict) (where_there is_all_keys u.keyset) (is_never u)) v
      ∙ ap (λ c. rest (no_one_class t.obj) (where_there whole_leaf t.vec) c (where_there is_all_keys u.keyset) (is_never u)) d
      ∙ ap (λ c. rest (no_one_class t.obj) (where_there whole_leaf t.vec) (where_there is_all_entries t.dict) c (is_never u)) k
      ∙ ap (λ c. rest (no_one_class t.obj) (where_there whole_leaf t.vec) (where_there is_all_entries t.dict) (where_there is_all_keys t.keyset) c) (never_same t)

-- ---- in a body of a repository

module _ (w : Whole) (owner : Name) where
  abbrev class_count : ℕ
  class_count = length (class_names w)

  listed_within : (front more : List Name) → flat_map (class_faults w owner) more ≡ []
      → list_all (λ c. nat_lt c class_count) (map (class_at w (front ++ more)) (numbers (length front) (length more))) ≡ true
  listed_within front [] h = refl
  listed_within front (n ∷ more) h =
      let here = class_at w (front ++ n ∷ more) (length front) in
      let later = map (class_at w (front ++ n ∷ more)) (numbers (suc (length front)) (length more)) in
      let first : nat_lt here class_count ≡ true = ap (λ (o : Option Name). nat_lt (named_class w o) class_count) (slice_seam front n more) ∙ class_there w owner n (empty_left (class_faults w owner n) (flat_map (class_faults w owner) more) h) in
      let next = listed_within (front ++ n ∷ []) more (empty_right (class_faults w owner n) (flat_map (class_faults w owner) more) h) in
      let longer : length (front ++ n ∷ []) ≡ suc (length front) = let k = length-append front (n ∷ []) in omega (arith, k) in
      let rest : list_all (λ c. nat_lt c class_count) later ≡ true =
      sym (ap₂ (λ (l : List Name) (k : ℕ). list_all (λ c. nat_lt c class_count) (map (class_at w l) (numbers k (length more)))) (append_assoc front (n ∷ []) more) longer) ∙ next in
      and_from (nat_lt here class_count) (list_all (λ c. nat_lt c class_count) later) first rest

  type_links : (t : TypeParts) → type_fits t ≡ true → type_faults w owner t ≡ [] → is_proper class_count (resolved_type w t) ≡ true
  type_links t h e =
      let f = class_at w t.classes in
      let u = type_with f t.t in
      let a = and_parts (type_in_range t.t) (bytes_eq (classes_of t.t) (numbers 0 (length t.classes)) && list_all is_word t.classes) h in
      let b = and_parts (bytes_eq (classes_of t.t) (numbers 0 (length t.classes))) (list_all is_word t.classes) a.1 in
      let are : classes_of t.t ≡ numbers 0 (length t.classes) = (bytes_eq-Decides (classes_of t.t) (numbers 0 (length t.classes))).0 b.0 in
      and_from (type_in_range u) (list_all (λ c. nat_lt c class_count) (classes_of u)) (range_same f t.t ∙ a.0)
      (ap (list_all (λ c. nat_lt c class_count)) (renumbered f t.t ∙ ap (map f) are) ∙ listed_within [] t.classes e)

  pub stated_links : (o : Option TypeParts) → where_there type_fits o ≡ true → stated_faults w owner o ≡ [] → where_there (is_proper class_count) (option_map (resolved_type w) o) ≡ true
  stated_links None h e = refl
  stated_links (Some t) h e = type_links t h e

  constraint_links : (t : TypeParts) → constraint_fits t ≡ true → type_faults w owner t ≡ [] → constraint_within class_count (resolved_type w t) ≡ true
  constraint_links t h e =
      let a = and_parts (type_fits t) (is_constraint t.t) h in
      and_from (is_proper class_count (resolved_type w t)) (is_constraint (resolved_type w t)) (type_links t a.0 e) (constraint_same (class_at w t.classes) t.t ∙ a.1)

module _ (w : Whole) (b : BodyParts) (owner : Name) where
  abbrev here : Place
  here = record { whole = w; body = b; owner = owner }

  abbrev bounds : Bounds
  bounds = bounds_of (length (class_names w)) (resolved_body w b)

  local_links : (name : Name) → local_faults here name ≡ [] → local_within bounds (local_number b name) ≡ true
  local_links name e = named_within (locals_of b) name (passes (names (locals_of b) name) reasons.UnknownName owner (dollar name) 0 e)

  target_links : (name : Name) → target_within bounds (label_number b name) ≡ true
  target_links name =
      let h = label_among 0 b.items name in
      let k = positions_linked w b b.items in
      le-leb (label_number b name) (length (flat_map (resolved_item w b) b.items)) (omega (arith, h, k))

  arm_links : (a : ArmParts) → arm_fits a ≡ true → arm_within bounds (resolved_arm b a) ≡ true
  arm_links a h = and_from (target_within bounds (label_number b a.target)) (has_no_text a.text) (target_links a.target) (and_parts (is_label a.target) (has_no_text a.text) h).1

  text_arm_links : (a : ArmParts) → text_arm_fits a ≡ true → text_arm_within bounds (resolved_arm b a) ≡ true
  text_arm_links a h = and_from (target_within bounds (label_number b a.target)) (has_text a.text) (target_links a.target) (and_parts (is_label a.target) (has_text a.text) h).1

  each_arm_links : (xs : List ArmParts) → list_all arm_fits xs ≡ true → list_all (arm_within bounds) (map (resolved_arm b) xs) ≡ true
  each_arm_links [] h = refl
  each_arm_links (a ∷ more) h =
      let p = and_parts (arm_fits a) (list_all arm_fits more) h in
      and_from (arm_within bounds (resolved_arm b a)) (list_all (arm_within bounds) (map (resolved_arm b) more)) (arm_links a p.0) (each_arm_links more p.1)

  arms_link : (xs : List ArmParts) → arms_fit xs ≡ true → arms_within bounds (map (resolved_arm b) xs) ≡ true
  arms_link [] h = absurd (cc)
  arms_link (a ∷ more) h = each_arm_links (a ∷ more) h

  text_arms_link : (xs : List ArmParts) → text_arms_fit xs ≡ true → text_arms_within bounds (map (resolved_arm b) xs) ≡ true
  text_arms_link [] h = absurd (cc)
  text_arms_link (a ∷ []) h = arm_links a h
  text_arms_link (a ∷ c ∷ more) h =
      let p = and_parts (text_arm_fits a) (text_arms_fit (c ∷ more)) h in
      and_from (text_arm_within bounds (resolved_arm b a)) (text_arms_within bounds (map (resolved_arm b) (c ∷ more))) (text_arm_links a p.0) (text_arms_link (c ∷ more) p.1)

  key_local_links : (k : Option Name) → key_local here k ≡ [] → where_there (local_within bounds) (option_map (local_number b) k) ≡ true
  key_local_links None e = refl
  key_local_links (Some name) e = local_links name e

  operand_links : (k : ImmKind) (m : ImmParts) → operand_fits k m ≡ true → operand_faults here m ≡ [] → operand_within bounds k (resolved_operand w b m) ≡ true
  operand_links kinds.Int (imms.Int i) h e = h
  operand_links kinds.Count (imms.Count n) h e = h
  operand_links kinds.Str (imms.Str s) h e = h
  operand_links kinds.Name (imms.Name n) h e = h
  operand_links kinds.Local (imms.Local n) h e = local_links n e
  operand_links kinds.Iter (imms.Iter i) h e = passes (nat_lt i b.iters) reasons.UnknownName owner _ 0 e
  operand_links kinds.Label (imms.Pos n) h e = target_links n
  operand_links kinds.Class (imms.Class n) h e = class_there w owner n e
  operand_links kinds.IncDec (imms.IncDec op) h e = refl
  operand_links kinds.SetOp (imms.SetOp op) h e = refl
  operand_links kinds.IsType (imms.IsType op) h e = refl
  operand_links kinds.Constraint (imms.Constraint t) h e = constraint_links w owner t h e
  operand_links kinds.Switch (imms.Arms xs) h e = arms_link xs h
  operand_links kinds.SSwitch (imms.Arms xs) h e = text_arms_link xs h
  operand_links kinds.IterLocals (imms.IterLocals k v) h e =
      and_from (where_there (local_within bounds) (option_map (local_number b) k)) (local_within bounds (local_number b v))
      (key_local_links k (empty_left (key_local here k) (local_faults here v) e)) (local_links v (empty_right (key_local here k) (local_faults here v) e))
  operand_links _ _ h e = absurd (cc)

  operands_link : (ks : List ImmKind) (ms : List ImmParts) → operands_fit ks ms ≡ true → flat_map (operand_faults here) ms ≡ [] → operands_within bounds ks (map (resolved_operand w b) ms) ≡ true
  operands_link [] [] h e = refl
  operands_link [] (m ∷ ms) h e = absurd (cc)
  operands_link (k ∷ ks) [] h e = absurd (cc)
  operands_link (k ∷ ks) (m ∷ ms) h e =
      let p = and_parts (operand_fits k m) (operands_fit ks ms) h in
      and_from (operand_within bounds k (resolved_operand w b m)) (operands_within bounds ks (map (resolved_operand w b) ms))
      (operand_links k m p.0 (empty_left (operand_faults here m) (flat_map (operand_faults here) ms) e))
      (operands_link ks ms p.1 (empty_right (operand_faults here m) (flat_map (operand_faults here) ms) e))

  some_class : (class : Name) → is_some (class_of w class) ≡ true → nat_lt (class_number w class) (length (class_names w)) ≡ true
  some_class class h = class_there w owner class (ap (λ (c : Bool). known c owner class) h)

  instruction_links : (op : Op) (ms : List ImmParts) → operands_fit (kinds_of op) ms ≡ true → instruction_faults here op ms ≡ [] → operands_within bounds (kinds_of op) (map (resolved_operand w b) ms) ≡ true
  instruction_links ops.ClsCnsD (imms.Name name ∷ imms.Class class ∷ []) h e =
      let p = and_parts (is_word name) (is_word class && true) h in
      let c = some_class class (constant_class here name class (class_of w class) e) in
      and_from (is_word name) (nat_lt (class_number w class) (length (class_names w)) && true) p.0 (and_from (nat_lt (class_number w class) (length (class_names w))) true c refl)
  instruction_links ops.FCallClsMethodD (imms.Count n ∷ imms.Name name ∷ imms.Class class ∷ []) h e =
      let p = and_parts (is_index n) (is_word name && (is_word class && true)) h in
      let q = and_parts (is_word name) (is_word class && true) p.1 in
      let c = some_class class (method_class here name class n (class_of w class) e) in
      and_from (is_index n) (is_word name && (nat_lt (class_number w class) (length (class_names w)) && true)) p.0
      (and_from (is_word name) (nat_lt (class_number w class) (length (class_names w)) && true) q.0 (and_from (nat_lt (class_number w class) (length (class_names w))) true c refl))
  instruction_links ops.FCallFuncD (imms.Count n ∷ imms.Name name ∷ []) h e = h
  instruction_links op ms h e = operands_link (kinds_of op) ms h e

  -- ---- member sequences

  base_links : (m : BaseParts) → base_fits m ≡ true → base_faults here m ≡ [] → base_within bounds (resolved_base b m) ≡ true
  base_links (bases.Local n) h e = local_links n e
  base_links (bases.Stack n) h e = h
  base_links bases.This h e = refl

  key_links : (k : MemberKeyParts) → key_fits k ≡ true → key_faults here k ≡ [] → key_within bounds (resolved_key b k) ≡ true
  key_links (keys.ElemStack n) h e = h
  key_links (keys.ElemLocal n) h e = local_links n e
  key_links (keys.ElemText s) h e = h
  key_links (keys.ElemInt i) h e = h
  key_links (keys.PropStack n) h e = h
  key_links (keys.PropLocal n) h e = local_links n e
  key_links (keys.PropName n) h e = h
  key_links (keys.NullsafeName n) h e = h
  key_links keys.Append h e = refl

  appends_same : (k : MemberKeyParts) → appends (resolved_key b k) ≡ parts.is_append k
  appends_same (keys.ElemStack n) = refl
  appends_same (keys.ElemLocal n) = refl
  appends_same (keys.ElemText s) = refl
  appends_same (keys.ElemInt i) = refl
  appends_same (keys.PropStack n) = refl
  appends_same (keys.PropLocal n) = refl
  appends_same (keys.PropName n) = refl
  appends_same (keys.NullsafeName n) = refl
  appends_same keys.Append = refl

  nullsafe_same : (k : MemberKeyParts) → is_nullsafe (resolved_key b k) ≡ parts.is_nullsafe k
  nullsafe_same (keys.ElemStack n) = refl
  nullsafe_same (keys.ElemLocal n) = refl
  nullsafe_same (keys.ElemText s) = refl
  nullsafe_same (keys.ElemInt i) = refl
  nullsafe_same (keys.PropStack n) = refl
  nullsafe_same (keys.PropLocal n) = refl
  nullsafe_same (keys.PropName n) = refl
  nullsafe_same (keys.NullsafeName n) = refl
  nullsafe_same keys.Append = refl

  query_key_links : (k : MemberKeyParts) → query_key_fits k ≡ true → key_faults here k ≡ [] → query_key_within bounds (resolved_key b k) ≡ true
  query_key_links k h e =
      let p = and_parts (key_fits k) (not (parts.is_append k)) h in
      and_from (key_within bounds (resolved_key b k)) (not (appends (resolved_key b k))) (key_links k p.0 e) (ap not (appends_same k) ∙ p.1)

  set_key_links : (k : MemberKeyParts) → set_key_fits k ≡ true → key_faults here k ≡ [] → set_key_within bounds (resolved_key b k) ≡ true
  set_key_links k h e =
      let p = and_parts (key_fits k) (not (parts.is_nullsafe k)) h in
      and_from (key_within bounds (resolved_key b k)) (not (is_nullsafe (resolved_key b k))) (key_links k p.0 e) (ap not (nullsafe_same k) ∙ p.1)

  change_key_links : (k : MemberKeyParts) → change_key_fits k ≡ true → key_faults here k ≡ [] → change_key_within bounds (resolved_key b k) ≡ true
  change_key_links k h e =
      let p = and_parts (key_fits k) (not (parts.is_append k) && not (parts.is_nullsafe k)) h in
      let q = and_parts (not (parts.is_append k)) (not (parts.is_nullsafe k)) p.1 in
      and_from (key_within bounds (resolved_key b k)) (not (appends (resolved_key b k)) && not (is_nullsafe (resolved_key b k))) (key_links k p.0 e)
      (and_from (not (appends (resolved_key b k))) (not (is_nullsafe (resolved_key b k))) (ap not (appends_same k) ∙ q.0) (ap not (nullsafe_same k) ∙ q.1))

  final_links : (f : FinalParts) → final_fits f ≡ true → key_faults here (last_key f) ≡ [] → final_within bounds (resolved_final b f) ≡ true
  final_links (finals.Query n mode k) h e = let p = and_parts (is_index n) (query_key_fits k) h in and_from (is_index n) (query_key_within bounds (resolved_key b k)) p.0 (query_key_links k p.1 e)
  final_links (finals.Set n k) h e = let p = and_parts (is_index n) (set_key_fits k) h in and_from (is_index n) (set_key_within bounds (resolved_key b k)) p.0 (set_key_links k p.1 e)
  final_links (finals.SetOp n op k) h e = let p = and_parts (is_index n) (change_key_fits k) h in and_from (is_index n) (change_key_within bounds (resolved_key b k)) p.0 (change_key_links k p.1 e)
  final_links (finals.IncDec n op k) h e = let p = and_parts (is_index n) (change_key_fits k) h in and_from (is_index n) (change_key_within bounds (resolved_key b k)) p.0 (change_key_links k p.1 e)
  final_links (finals.Unset n k) h e = let p = and_parts (is_index n) (change_key_fits k) h in and_from (is_index n) (change_key_within bounds (resolved_key b k)) p.0 (change_key_links k p.1 e)

  dims_link : (ks : List MemberKeyParts) → list_all query_key_fits ks ≡ true → flat_map (key_faults here) ks ≡ [] → list_all (query_key_within bounds) (map (resolved_key b) ks) ≡ true
  dims_link [] h e = refl
  dims_link (k ∷ ks) h e =
      let p = and_parts (query_key_fits k) (list_all query_key_fits ks) h in
      and_from (query_key_within bounds (resolved_key b k)) (list_all (query_key_within bounds) (map (resolved_key b) ks))
      (query_key_links k p.0 (empty_left (key_faults here k) (flat_map (key_faults here) ks) e)) (dims_link ks p.1 (empty_right (key_faults here k) (flat_map (key_faults here) ks) e))

  any_nullsafe : (ks : List MemberKeyParts) → list_any is_nullsafe (map (resolved_key b) ks) ≡ list_any parts.is_nullsafe ks
  any_nullsafe [] = refl
  any_nullsafe (k ∷ ks) = ap₂ (λ (x y : Bool). x || y) (nullsafe_same k) (any_nullsafe ks)

  query_same : (f : FinalParts) → is_query (resolved_final b f) ≡ parts.is_query f
  query_same (finals.Query n mode k) = refl
  query_same (finals.Set n k) = refl
  query_same (finals.SetOp n op k) = refl
  query_same (finals.IncDec n op k) = refl
  query_same (finals.Unset n k) = refl

  code_links : (c : CodeParts) → code_fits c ≡ true → code_faults here c ≡ [] → code_within bounds (resolved_code w b c) ≡ true
  code_links (forms.Plain i) h e = instruction_links i.op i.imms h e
  code_links (forms.Member m) h e =
      let dims = list_all query_key_fits m.dims in
      let safe = not (list_any parts.is_nullsafe m.dims) || parts.is_query m.last in
      let x = and_parts (base_fits m.base) (dims && (final_fits m.last && safe)) h in
      let y = and_parts dims (final_fits m.last && safe) x.1 in
      let z = and_parts (final_fits m.last) safe y.1 in
      let of_dims = flat_map (key_faults here) m.dims in
      let of_last = key_faults here (last_key m.last) in
      let behind = empty_right (base_faults here m.base) (of_dims ++ of_last) e in
      let base = resolved_base b m.base in
      let all = map (resolved_key b) m.dims in
      let last = resolved_final b m.last in
      let kept = not (list_any is_nullsafe all) || is_query last in
      and_from (base_within bounds base) (list_all (query_key_within bounds) all && (final_within bounds last && kept)) (base_links m.base x.0 (empty_left (base_faults here m.base) (of_dims ++ of_last) e))
      (and_from (list_all (query_key_within bounds) all) (final_within bounds last && kept) (dims_link m.dims y.0 (empty_left of_dims of_last behind))
      (and_from (final_within bounds last) kept (final_links m.last z.0 (empty_right of_dims of_last behind))
      (ap₂ (λ (x y : Bool). not x || y) (any_nullsafe m.dims) (query_same m.last) ∙ z.1)))

  -- ---- positions

  assert_links : (a : AssertParts) → assert_fits a ≡ true → assert_faults here a ≡ [] → assert_within bounds (resolved_assert w b a) ≡ true
  assert_links (claims.Local name t) h e =
      let p = and_parts (is_word name) (type_fits t) h in
      and_from (local_within bounds (local_number b name)) (is_proper (length (class_names w)) (resolved_type w t))
      (local_links name (empty_left (local_faults here name) (type_faults w owner t) e)) (type_links w owner t p.1 (empty_right (local_faults here name) (type_faults w owner t) e))
  assert_links (claims.Stack n t) h e =
      let p = and_parts (is_index n) (type_fits t) h in
      and_from (is_index n) (is_proper (length (class_names w)) (resolved_type w t)) p.0 (type_links w owner t p.1 e)

  asserts_link : (xs : List AssertParts) → list_all assert_fits xs ≡ true → flat_map (assert_faults here) xs ≡ [] → list_all (assert_within bounds) (map (resolved_assert w b) xs) ≡ true
  asserts_link [] h e = refl
  asserts_link (a ∷ xs) h e =
      let p = and_parts (assert_fits a) (list_all assert_fits xs) h in
      and_from (assert_within bounds (resolved_assert w b a)) (list_all (assert_within bounds) (map (resolved_assert w b) xs))
      (assert_links a p.0 (empty_left (assert_faults here a) (flat_map (assert_faults here) xs) e)) (asserts_link xs p.1 (empty_right (assert_faults here a) (flat_map (assert_faults here) xs) e))

  position_links : (q : PositionParts) → position_fits q ≡ true → position_faults here q ≡ [] → position_within bounds (resolved_position w b q) ≡ true
  position_links q h e =
      let p = and_parts (list_all assert_fits q.asserts) (code_fits q.code) h in
      let asserts = flat_map (assert_faults here) q.asserts in
      and_from (list_all (assert_within bounds) (map (resolved_assert w b) q.asserts)) (code_within bounds (resolved_code w b q.code))
      (asserts_link q.asserts p.0 (empty_left asserts (code_faults here q.code) e)) (code_links q.code p.1 (empty_right asserts (code_faults here q.code) e))

  items_link : (is : List ItemParts) → list_all item_fits is ≡ true → flat_map (position_faults here) (flat_map position_in is) ≡ [] → list_all (position_within bounds) (flat_map (resolved_item w b) is) ≡ true
  items_link [] h e = refl
  items_link (items.Label name ∷ is) h e = items_link is (and_parts (is_label name) (list_all item_fits is) h).1 e
  items_link (items.Try ∷ is) h e = items_link is h e
  items_link (items.Catch ∷ is) h e = items_link is h e
  items_link (items.End ∷ is) h e = items_link is h e
  items_link (items.Position q ∷ is) h e =
      let p = and_parts (position_fits q) (list_all item_fits is) h in
      let more = flat_map (position_faults here) (flat_map position_in is) in
      and_from (position_within bounds (resolved_position w b q)) (list_all (position_within bounds) (flat_map (resolved_item w b) is))
      (position_links q p.0 (empty_left (position_faults here q) more e)) (items_link is p.1 (empty_right (position_faults here q) more e))

-- ---- bodies

pub body_links : (w : Whole) (b : BodyParts) (owner : Name) → body_fits b ≡ true → body_faults (record { whole = w; body = b; owner = owner }) ≡ [] → body_within (length (class_names w)) (resolved_body w b) ≡ true
body_links w b owner h e =
    let p : Place = record { whole = w; body = b; owner = owner } in
    let classes = length (class_names w) in
    let c = resolved_body w b in
    let f = body_facts b h in
    let g = faultless p e in
    let s = limits_hold p g.limits in
    let n = positions_linked w b b.items in
    let l = length-append b.params b.locals in
    let few_locals = s.locals in
    let few_positions = s.positions in
    let params : length b.params ≤ length (locals_of b) = omega (arith, l) in
    let positions : length (flat_map (resolved_item w b) b.items) ≤ 65535 = omega (arith, n, few_positions) in
    let within = where_there (is_proper classes) c.stated && list_all (position_within (bounds_of classes c)) c.positions in
    and_from (is_word c.name) (list_all is_word c.locals && (distinct c.locals && (in_limits c && within))) f.name
    (and_from (list_all is_word c.locals) (distinct c.locals && (in_limits c && within)) (all_both is_word b.params b.locals f.params f.locals)
    (and_from (distinct c.locals) (in_limits c && within) (differ reasons.DuplicateName owner dollar [] (locals_of b) g.locals)
    (and_from (in_limits c) within
    (and_from (nat_le c.params (length c.locals)) (nat_le (length c.locals) 255 && (few_iterators c && nat_le (length c.positions) 65535)) (le-leb c.params (length c.locals) params)
    (and_from (nat_le (length c.locals) 255) (few_iterators c && nat_le (length c.positions) 65535) (le-leb (length c.locals) 255 few_locals)
    (and_from (few_iterators c) (nat_le (length c.positions) 65535) (le-leb c.iters 32 s.iters) (le-leb (length c.positions) 65535 positions))))
    (and_from (where_there (is_proper classes) c.stated) (list_all (position_within (bounds_of classes c)) c.positions)
    (stated_links w owner b.stated f.stated g.stated)
    (items_link w b owner b.items f.items g.positions)))))

pub methods_fit : (cs : List ClassParts) → list_all class_fits cs ≡ true → list_all (λ (c : ClassParts). list_all body_fits c.methods) cs ≡ true
methods_fit [] h = refl
methods_fit (c ∷ cs) h =
    let p = and_parts (class_fits c) (list_all class_fits cs) h in
    and_from (list_all body_fits c.methods) (list_all (λ (c : ClassParts). list_all body_fits c.methods) cs) (class_facts c p.0).methods (methods_fit cs p.1)

-- each body of what parts that fit link to
pub all_within : (w : Whole) → parts_fit w.functions w.classes ≡ true → faults w ≡ [] → list_all (body_within (length (class_names w))) (bodies (resolved w)) ≡ true
all_within w h e =
    let p = and_parts (list_all body_fits w.functions) (list_all class_fits w.classes) h in
    all_pass w body_fits (body_within (length (class_names w))) (body_links w) p.0 (methods_fit w.classes p.1) (passed w e).bodies
