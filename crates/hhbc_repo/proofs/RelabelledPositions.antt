-- Positions with other names for their labels: where the items have those names, positions that fit and pass the checks of linking
-- still do, and they link to the same positions.
use Rattle.std.proofs.Common.{◌≡◌, ℕ, Bool, true, List, [], ◌∷◌, ◌++◌, map, flat_map, refl, ap, ap₂, ◌∙◌}
use Rattle.std.specs.List.{list_all}
use Rattle.std.proofs.lemmas.Bool.{and_from, and_parts}
use Rattle.hhbc_ops.specs.declared.op.Op.{Op}
use Rattle.hhbc_ops.specs.declared.op.Op.TheVariants as ops
use Rattle.hhbc_ops.specs.declared.words.ImmKind.{ImmKind}
use Rattle.hhbc_ops.specs.declared.words.ImmKind.TheVariants as kinds
use Rattle.hhbc_ops.specs.Ops.{kinds_of}
use Rattle.hhbc_repo.specs.declared.link_fault.LinkFault.{LinkFault}
use Rattle.hhbc_repo.specs.declared.link_fault.LinkKind.TheVariants as reasons
use Rattle.hhbc_repo.specs.declared.parts.ArmParts.{ArmParts}
use Rattle.hhbc_repo.specs.declared.parts.AssertParts.{AssertParts}
use Rattle.hhbc_repo.specs.declared.parts.AssertParts.TheVariants as claims
use Rattle.hhbc_repo.specs.declared.parts.BodyParts.{BodyParts}
use Rattle.hhbc_repo.specs.declared.parts.CodeParts.{CodeParts}
use Rattle.hhbc_repo.specs.declared.parts.CodeParts.TheVariants as forms
use Rattle.hhbc_repo.specs.declared.parts.ImmParts.{ImmParts}
use Rattle.hhbc_repo.specs.declared.parts.ImmParts.TheVariants as imms
use Rattle.hhbc_repo.specs.declared.parts.ItemParts.{ItemParts}
use Rattle.hhbc_repo.specs.declared.parts.PositionParts.{PositionParts}
use Rattle.hhbc_repo.specs.declared.body.Position.{Position}
use Rattle.hhbc_repo.specs.declared.body.Assert.TheVariants as asserts
use Rattle.hhbc_repo.specs.declared.code.Arm.{Arm}
use Rattle.hhbc_repo.specs.declared.code.Code.TheVariants as codes
use Rattle.hhbc_repo.specs.declared.code.Imm.{Imm}
use Rattle.hhbc_repo.specs.declared.code.Imm.TheVariants as linked
use Rattle.hhbc_repo.specs.Canonical.{position_targets}
use Rattle.hhbc_repo.specs.Codes.{labels, labels_in}
use Rattle.hhbc_repo.specs.Fits.{is_label, has_no_text, has_text, arm_fits, text_arm_fits, arms_fit, text_arms_fit, operand_fits, operands_fit, code_fits, assert_fits, position_fits}
use Rattle.hhbc_repo.specs.LinkFaults.{Name, Whole, Place, names, label_of, check, class_of, local_faults, label_faults, assert_faults, operand_faults, constant_faults, method_faults, instruction_faults, code_faults, position_faults}
use Rattle.hhbc_repo.proofs.Relabelled.{relabelled_arm, relabelled_operand, relabelled_code, relabelled_position}
use Rattle.hhbc_repo.specs.Resolved.{label_from, label_number, local_number, resolved_assert, resolved_arm, resolved_operand, resolved_code, resolved_position}
use Rattle.hhbc_repo.proofs.AlikeWholes.{Alike, place, class_same, number_same, type_same, class_faults_same, type_faults_same, constant_faults_same, method_faults_same, function_faults_same}
use Rattle.hhbc_repo.proofs.Checking.{both_pass}
use Rattle.hhbc_repo.proofs.NoFaults.{empty_left, empty_right}
use Rattle.hhbc_repo.proofs.SpelledTypes.{all_front, all_back}

-- a body with other items
abbrev pub with_items : BodyParts → List ItemParts → BodyParts
with_items b is = record { name = b.name; params = b.params; locals = b.locals; iters = b.iters; stated = b.stated; items = is }

-- among the items the new name is a label, of the position that the old one names in the body
pub record Renamed (b : BodyParts) (is : List ItemParts) (old new : Name) : Type 0 where
  pub fits : is_label new ≡ true
  pub listed : names (flat_map label_of is) new ≡ true
  pub number : label_from 0 is new ≡ label_number b old

module _ (w v : Whole) (alike : Alike w v) (b : BodyParts) (is : List ItemParts) (owner : Name) (new : Name → Name) (is_target : ℕ → Bool)
    (renamed : (name : Name) → is_target (label_number b name) ≡ true → Renamed b is name (new name)) where
  abbrev made : BodyParts
  made = with_items b is

  abbrev here : Place
  here = place w b owner

  abbrev there : Place
  there = place v made owner

  -- the targets of these positions are among those that are renamed
  abbrev Meant : List ℕ → Type 0
  Meant ps = list_all is_target ps ≡ true

  abbrev arm_targets : List ArmParts → List ℕ
  arm_targets xs = map (λ (a : Arm). a.target) (map (resolved_arm b) xs)

  -- ---- arms

  arm_fits_still : (a : ArmParts) → is_target (label_number b a.target) ≡ true → arm_fits a ≡ true → arm_fits (relabelled_arm new a) ≡ true
  arm_fits_still a t h = and_from (is_label (new a.target)) (has_no_text a.text) (renamed a.target t).fits (and_parts (is_label a.target) (has_no_text a.text) h).1

  text_arm_fits_still : (a : ArmParts) → is_target (label_number b a.target) ≡ true → text_arm_fits a ≡ true → text_arm_fits (relabelled_arm new a) ≡ true
  text_arm_fits_still a t h = and_from (is_label (new a.target)) (has_text a.text) (renamed a.target t).fits (and_parts (is_label a.target) (has_text a.text) h).1

  each_arm_fits_still : (xs : List ArmParts) → Meant (arm_targets xs) → list_all arm_fits xs ≡ true → list_all arm_fits (map (relabelled_arm new) xs) ≡ true
  each_arm_fits_still [] t h = refl
  each_arm_fits_still (a ∷ xs) t h =
      let s = and_parts (is_target (label_number b a.target)) (list_all is_target (arm_targets xs)) t in
      let p = and_parts (arm_fits a) (list_all arm_fits xs) h in
      and_from (arm_fits (relabelled_arm new a)) (list_all arm_fits (map (relabelled_arm new) xs)) (arm_fits_still a s.0 p.0) (each_arm_fits_still xs s.1 p.1)

  arms_fit_still : (xs : List ArmParts) → Meant (arm_targets xs) → arms_fit xs ≡ true → arms_fit (map (relabelled_arm new) xs) ≡ true
  arms_fit_still [] t h = absurd (cc)
  arms_fit_still (a ∷ xs) t h = each_arm_fits_still (a ∷ xs) t h

  text_arms_fit_still : (xs : List ArmParts) → Meant (arm_targets xs) → text_arms_fit xs ≡ true → text_arms_fit (map (relabelled_arm new) xs) ≡ true
  text_arms_fit_still [] t h = absurd (cc)
  text_arms_fit_still (a ∷ []) t h = arm_fits_still a (and_parts (is_target (label_number b a.target)) true t).0 h
  text_arms_fit_still (a ∷ c ∷ xs) t h =
      let s = and_parts (is_target (label_number b a.target)) (list_all is_target (arm_targets (c ∷ xs))) t in
      let p = and_parts (text_arm_fits a) (text_arms_fit (c ∷ xs)) h in
      and_from (text_arm_fits (relabelled_arm new a)) (text_arms_fit (map (relabelled_arm new) (c ∷ xs))) (text_arm_fits_still a s.0 p.0) (text_arms_fit_still (c ∷ xs) s.1 p.1)

  label_faultless : (name : Name) → is_target (label_number b name) ≡ true → label_faults there (new name) ≡ []
  label_faultless name t = ap (λ (c : Bool). check c reasons.UnknownLabel owner (new name) 0) (renamed name t).listed

  arms_faultless : (xs : List ArmParts) → Meant (arm_targets xs) → flat_map (λ (a : ArmParts). label_faults there a.target) (map (relabelled_arm new) xs) ≡ []
  arms_faultless [] t = refl
  arms_faultless (a ∷ xs) t =
      let s = and_parts (is_target (label_number b a.target)) (list_all is_target (arm_targets xs)) t in
      both_pass (label_faults there (new a.target)) (flat_map (λ (a : ArmParts). label_faults there a.target) (map (relabelled_arm new) xs)) (label_faultless a.target s.0) (arms_faultless xs s.1)

  arms_resolve : (xs : List ArmParts) → Meant (arm_targets xs) → map (resolved_arm made) (map (relabelled_arm new) xs) ≡ map (resolved_arm b) xs
  arms_resolve [] t = refl
  arms_resolve (a ∷ xs) t =
      let s = and_parts (is_target (label_number b a.target)) (list_all is_target (arm_targets xs)) t in
      ap₂ (λ (n : ℕ) (more : List Arm). record { text = a.text; target = n } ∷ more) (renamed a.target s.0).number (arms_resolve xs s.1)

  -- ---- operands

  operand_fits_still : (m : ImmParts) (k : ImmKind) → Meant (labels_in (resolved_operand w b m)) → operand_fits k m ≡ true → operand_fits k (relabelled_operand new m) ≡ true
  operand_fits_still (imms.Pos name) kinds.Label t h = (renamed name (and_parts (is_target (label_number b name)) true t).0).fits
  operand_fits_still (imms.Pos name) k t h = absurd (cc)
  operand_fits_still (imms.Arms xs) kinds.Switch t h = arms_fit_still xs t h
  operand_fits_still (imms.Arms xs) kinds.SSwitch t h = text_arms_fit_still xs t h
  operand_fits_still (imms.Arms xs) k t h = absurd (cc)
  operand_fits_still m k t h = h

  operands_fit_still : (ks : List ImmKind) (ms : List ImmParts) → Meant (flat_map labels_in (map (resolved_operand w b) ms)) → operands_fit ks ms ≡ true → operands_fit ks (map (relabelled_operand new) ms) ≡ true
  operands_fit_still [] [] t h = refl
  operands_fit_still [] (m ∷ ms) t h = absurd (cc)
  operands_fit_still (k ∷ ks) [] t h = absurd (cc)
  operands_fit_still (k ∷ ks) (m ∷ ms) t h =
      let now = labels_in (resolved_operand w b m) in
      let later = flat_map labels_in (map (resolved_operand w b) ms) in
      let p = and_parts (operand_fits k m) (operands_fit ks ms) h in
      and_from (operand_fits k (relabelled_operand new m)) (operands_fit ks (map (relabelled_operand new) ms))
      (operand_fits_still m k (all_front is_target now later t) p.0) (operands_fit_still ks ms (all_back is_target now later t) p.1)

  operand_faultless : (m : ImmParts) → Meant (labels_in (resolved_operand w b m)) → operand_faults here m ≡ [] → operand_faults there (relabelled_operand new m) ≡ []
  operand_faultless (imms.Pos name) t h = label_faultless name (and_parts (is_target (label_number b name)) true t).0
  operand_faultless (imms.Class name) t h = class_faults_same w v alike owner name ∙ h
  operand_faultless (imms.Constraint c) t h = type_faults_same w v alike owner c ∙ h
  operand_faultless (imms.Arms xs) t h = arms_faultless xs t
  operand_faultless m t h = h

  operands_faultless : (ms : List ImmParts) → Meant (flat_map labels_in (map (resolved_operand w b) ms)) → flat_map (operand_faults here) ms ≡ [] → flat_map (operand_faults there) (map (relabelled_operand new) ms) ≡ []
  operands_faultless [] t h = refl
  operands_faultless (m ∷ ms) t h =
      let now = labels_in (resolved_operand w b m) in
      let later = flat_map labels_in (map (resolved_operand w b) ms) in
      both_pass (operand_faults there (relabelled_operand new m)) (flat_map (operand_faults there) (map (relabelled_operand new) ms))
      (operand_faultless m (all_front is_target now later t) (empty_left (operand_faults here m) (flat_map (operand_faults here) ms) h))
      (operands_faultless ms (all_back is_target now later t) (empty_right (operand_faults here m) (flat_map (operand_faults here) ms) h))

  operand_resolves : (m : ImmParts) → Meant (labels_in (resolved_operand w b m)) → resolved_operand v made (relabelled_operand new m) ≡ resolved_operand w b m
  operand_resolves (imms.Pos name) t = ap (λ (n : ℕ). linked.Pos n) (renamed name (and_parts (is_target (label_number b name)) true t).0).number
  operand_resolves (imms.Class name) t = ap (λ (n : ℕ). linked.Class n) (number_same w v alike name)
  operand_resolves (imms.Constraint c) t = ap linked.Constraint (type_same w v alike c)
  operand_resolves (imms.Arms xs) t = ap linked.Arms (arms_resolve xs t)
  operand_resolves m t = refl

  operands_resolve : (ms : List ImmParts) → Meant (flat_map labels_in (map (resolved_operand w b) ms)) → map (resolved_operand v made) (map (relabelled_operand new) ms) ≡ map (resolved_operand w b) ms
  operands_resolve [] t = refl
  operands_resolve (m ∷ ms) t =
      let now = labels_in (resolved_operand w b m) in
      let later = flat_map labels_in (map (resolved_operand w b) ms) in
      ap₂ (λ (x : Imm) (xs : List Imm). x ∷ xs) (operand_resolves m (all_front is_target now later t)) (operands_resolve ms (all_back is_target now later t))

  -- ---- codes

  instruction_faultless : (op : Op) (ms : List ImmParts) → Meant (flat_map labels_in (map (resolved_operand w b) ms)) → instruction_faults here op ms ≡ [] → instruction_faults there op (map (relabelled_operand new) ms) ≡ []
  instruction_faultless ops.ClsCnsD (imms.Name name ∷ imms.Class class ∷ []) t h =
      ap (constant_faults there name class) (class_same w v alike class) ∙ constant_faults_same w v alike b made owner name class (class_of w class) ∙ h
  instruction_faultless ops.FCallClsMethodD (imms.Count n ∷ imms.Name name ∷ imms.Class class ∷ []) t h =
      ap (method_faults there name class n) (class_same w v alike class) ∙ method_faults_same w v alike b made owner name class n (class_of w class) ∙ h
  instruction_faultless ops.FCallFuncD (imms.Count n ∷ imms.Name name ∷ []) t h = function_faults_same w v alike b made owner name n ∙ h
  instruction_faultless op ms t h = operands_faultless ms t h

  code_fits_still : (c : CodeParts) → Meant (labels (resolved_code w b c)) → code_fits c ≡ true → code_fits (relabelled_code new c) ≡ true
  code_fits_still (forms.Plain i) t h = operands_fit_still (kinds_of i.op) i.imms t h
  code_fits_still (forms.Member m) t h = h

  code_faultless : (c : CodeParts) → Meant (labels (resolved_code w b c)) → code_faults here c ≡ [] → code_faults there (relabelled_code new c) ≡ []
  code_faultless (forms.Plain i) t h = instruction_faultless i.op i.imms t h
  code_faultless (forms.Member m) t h = h

  code_resolves : (c : CodeParts) → Meant (labels (resolved_code w b c)) → resolved_code v made (relabelled_code new c) ≡ resolved_code w b c
  code_resolves (forms.Plain i) t = ap (λ (ms : List Imm). codes.Plain (record { op = i.op; imms = ms })) (operands_resolve i.imms t)
  code_resolves (forms.Member m) t = refl

  -- ---- positions

  assert_faults_same : (a : AssertParts) → assert_faults there a ≡ assert_faults here a
  assert_faults_same (claims.Local name t) = ap (λ (fs : List LinkFault). local_faults here name ++ fs) (type_faults_same w v alike owner t)
  assert_faults_same (claims.Stack i t) = type_faults_same w v alike owner t

  assert_same : (a : AssertParts) → resolved_assert v made a ≡ resolved_assert w b a
  assert_same (claims.Local name t) = ap (asserts.Local (local_number b name)) (type_same w v alike t)
  assert_same (claims.Stack i t) = ap (asserts.Stack i) (type_same w v alike t)

  position_fits_still : (q : PositionParts) → Meant (position_targets (resolved_position w b q)) → position_fits q ≡ true → position_fits (relabelled_position new q) ≡ true
  position_fits_still q t h =
      let p = and_parts (list_all assert_fits q.asserts) (code_fits q.code) h in
      and_from (list_all assert_fits q.asserts) (code_fits (relabelled_code new q.code)) p.0 (code_fits_still q.code t p.1)

  position_faultless : (q : PositionParts) → Meant (position_targets (resolved_position w b q)) → position_faults here q ≡ [] → position_faults there (relabelled_position new q) ≡ []
  position_faultless q t h =
      let first = flat_map (assert_faults here) q.asserts in
      let same : flat_map (assert_faults there) q.asserts ≡ first = λ i. flat_map (λ a. assert_faults_same a i) q.asserts in
      both_pass (flat_map (assert_faults there) q.asserts) (code_faults there (relabelled_code new q.code))
      (same ∙ empty_left first (code_faults here q.code) h) (code_faultless q.code t (empty_right first (code_faults here q.code) h))

  position_resolves : (q : PositionParts) → Meant (position_targets (resolved_position w b q)) → resolved_position v made (relabelled_position new q) ≡ resolved_position w b q
  position_resolves q t = λ i. record { asserts = map (λ a. assert_same a i) q.asserts; code = code_resolves q.code t i }

  abbrev all_targets : List PositionParts → List ℕ
  all_targets qs = flat_map position_targets (map (resolved_position w b) qs)

  pub positions_fit_still : (qs : List PositionParts) → list_all is_target (flat_map position_targets (map (resolved_position w b) qs)) ≡ true → list_all position_fits qs ≡ true
      → list_all position_fits (map (relabelled_position new) qs) ≡ true
  positions_fit_still [] t h = refl
  positions_fit_still (q ∷ qs) t h =
      let now = position_targets (resolved_position w b q) in
      let p = and_parts (position_fits q) (list_all position_fits qs) h in
      and_from (position_fits (relabelled_position new q)) (list_all position_fits (map (relabelled_position new) qs))
      (position_fits_still q (all_front is_target now (all_targets qs) t) p.0) (positions_fit_still qs (all_back is_target now (all_targets qs) t) p.1)

  pub positions_faultless : (qs : List PositionParts) → list_all is_target (flat_map position_targets (map (resolved_position w b) qs)) ≡ true
      → flat_map (position_faults (place w b owner)) qs ≡ [] → flat_map (position_faults (place v (with_items b is) owner)) (map (relabelled_position new) qs) ≡ []
  positions_faultless [] t h = refl
  positions_faultless (q ∷ qs) t h =
      let now = position_targets (resolved_position w b q) in
      let later = flat_map (position_faults here) qs in
      both_pass (position_faults there (relabelled_position new q)) (flat_map (position_faults there) (map (relabelled_position new) qs))
      (position_faultless q (all_front is_target now (all_targets qs) t) (empty_left (position_faults here q) later h))
      (positions_faultless qs (all_back is_target now (all_targets qs) t) (empty_right (position_faults here q) later h))

  pub positions_resolve : (qs : List PositionParts) → list_all is_target (flat_map position_targets (map (resolved_position w b) qs)) ≡ true
      → map (resolved_position v (with_items b is)) (map (relabelled_position new) qs) ≡ map (resolved_position w b) qs
  positions_resolve [] t = refl
  positions_resolve (q ∷ qs) t =
      let now = position_targets (resolved_position w b q) in
      ap₂ (λ (x : Position) (xs : List Position). x ∷ xs) (position_resolves q (all_front is_target now (all_targets qs) t)) (positions_resolve qs (all_back is_target now (all_targets qs) t))
