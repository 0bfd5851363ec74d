-- In alike wholes functions and classes pass the same checks, and link to the same.
use Rattle.std.proofs.Common.{◌≡◌, ℕ, suc, not, nat_le, List, [], ◌∷◌, ◌++◌, map, flat_map, take, length, Option, option_map, refl, sym, ap, ap₂, ◌∙◌}
use Rattle.std.proofs.lemmas.Grind.{flat_map-append}
use Rattle.type_lattice.specs.Classes.{Tree, parent_of, chain, has}
use Rattle.hhbc_ops.specs.declared.op.Op.{Op}
use Rattle.hhbc_ops.specs.declared.op.Op.TheVariants as ops
use Rattle.hhbc_repo.specs.declared.link_fault.LinkFault.{LinkFault}
use Rattle.hhbc_repo.specs.declared.link_fault.LinkKind.TheVariants as reasons
use Rattle.hhbc_repo.specs.declared.parts.AssertParts.{AssertParts}
use Rattle.hhbc_repo.specs.declared.parts.AssertParts.TheVariants as claims
use Rattle.hhbc_repo.specs.declared.parts.BodyParts.{BodyParts}
use Rattle.hhbc_repo.specs.declared.parts.ClassParts.{ClassParts}
use Rattle.hhbc_repo.specs.declared.parts.CodeParts.{CodeParts}
use Rattle.hhbc_repo.specs.declared.parts.CodeParts.TheVariants as forms
use Rattle.hhbc_repo.specs.declared.parts.ImmParts.{ImmParts}
use Rattle.hhbc_repo.specs.declared.parts.ImmParts.TheVariants as imms
use Rattle.hhbc_repo.specs.declared.parts.ItemParts.{ItemParts}
use Rattle.hhbc_repo.specs.declared.parts.ItemParts.TheVariants as items
use Rattle.hhbc_repo.specs.declared.parts.PositionParts.{PositionParts}
use Rattle.hhbc_repo.specs.declared.parts.PropertyParts.{PropertyParts}
use Rattle.hhbc_repo.specs.declared.parts.TypeParts.{TypeParts}
use Rattle.hhbc_repo.specs.declared.body.Assert.TheVariants as asserts
use Rattle.hhbc_repo.specs.declared.code.Code.TheVariants as coded
use Rattle.hhbc_repo.specs.declared.code.Imm.TheVariants as linked
use Rattle.hhbc_repo.specs.declared.repo.Const.{Const}
use Rattle.hhbc_repo.specs.LinkFaults.{Name, Whole, Place, names, as_it_is, dollar, check, class_of, above, ancestors, different, properties, along, differ_from, locals_of, labels_of, positions_of, local_faults, limit_faults, assert_faults, operand_faults, constant_faults, method_faults, instruction_faults, code_faults, position_faults, body_faults, method_places, class_checks, member_checks, each_class}
use Rattle.hhbc_repo.specs.Resolved.{local_number, resolved_assert, resolved_operand, resolved_code, resolved_item, resolved_body, resolved_property, resolved_class, resolved_type, regions_from}
use Rattle.hhbc_repo.proofs.AlikeWholes.{Alike, place, places_called, of_class, class_same, number_same, parent_same, type_same, class_faults_same, type_faults_same, stated_faults_same, parent_faults_same, property_checks_same, constant_faults_same, method_faults_same, function_faults_same}

module _ (w v : Whole) (alike : Alike w v) where
  -- ---- the checks of a body

  module _ (b : BodyParts) (owner : Name) where
    abbrev here : Place
    here = place w b owner

    abbrev there : Place
    there = place v b owner

    operand_checked : (m : ImmParts) → operand_faults there m ≡ operand_faults here m
    operand_checked (imms.Class name) = class_faults_same w v alike owner name
    operand_checked (imms.Constraint t) = type_faults_same w v alike owner t
    operand_checked m = refl

    instruction_checked : (op : Op) (ms : List ImmParts) → instruction_faults there op ms ≡ instruction_faults here op ms
    instruction_checked ops.ClsCnsD (imms.Name name ∷ imms.Class class ∷ []) =
        ap (constant_faults there name class) (class_same w v alike class) ∙ constant_faults_same w v alike b b owner name class (class_of w class)
    instruction_checked ops.FCallClsMethodD (imms.Count n ∷ imms.Name name ∷ imms.Class class ∷ []) =
        ap (method_faults there name class n) (class_same w v alike class) ∙ method_faults_same w v alike b b owner name class n (class_of w class)
    instruction_checked ops.FCallFuncD (imms.Count n ∷ imms.Name name ∷ []) = function_faults_same w v alike b b owner name n
    instruction_checked op ms = λ i. flat_map (λ (m : ImmParts). operand_checked m i) ms

    code_checked : (c : CodeParts) → code_faults there c ≡ code_faults here c
    code_checked (forms.Plain c) = instruction_checked c.op c.imms
    code_checked (forms.Member m) = refl

    assert_checked : (a : AssertParts) → assert_faults there a ≡ assert_faults here a
    assert_checked (claims.Local name t) = ap (λ (fs : List LinkFault). local_faults here name ++ fs) (type_faults_same w v alike owner t)
    assert_checked (claims.Stack i t) = type_faults_same w v alike owner t

    position_checked : (q : PositionParts) → position_faults there q ≡ position_faults here q
    position_checked q = λ i. flat_map (λ (a : AssertParts). assert_checked a i) q.asserts ++ code_checked q.code i

    pub body_checked : body_faults (place v b owner) ≡ body_faults (place w b owner)
    body_checked = λ i.
        limit_faults here
        ++ (differ_from reasons.DuplicateName owner dollar [] (locals_of b)
        ++ (differ_from reasons.DuplicateLabel owner as_it_is [] (labels_of b)
        ++ (stated_faults_same w v alike owner b.stated i ++ flat_map (λ (q : PositionParts). position_checked q i) (positions_of b))))

  pub bodies_checked : (called : Name → Name) (bs : List BodyParts) → flat_map body_faults (places_called v called bs) ≡ flat_map body_faults (places_called w called bs)
  bodies_checked called [] = refl
  bodies_checked called (b ∷ bs) = ap₂ (λ (x y : List LinkFault). x ++ y) (body_checked b (called b.name)) (bodies_checked called bs)

  -- ---- the checks of classes

  pub methods_checked : (cs : List ClassParts) → flat_map body_faults (flat_map (method_places v) cs) ≡ flat_map body_faults (flat_map (method_places w) cs)
  methods_checked [] = refl
  methods_checked (c ∷ cs) =
      flat_map-append body_faults (method_places v c) (flat_map (method_places v) cs)
      ∙ ap₂ (λ (x y : List LinkFault). x ++ y) (bodies_checked (of_class c) c.methods) (methods_checked cs)
      ∙ sym (flat_map-append body_faults (method_places w c) (flat_map (method_places w) cs))

  pub class_checked : (n : ℕ) (c : ClassParts) → class_checks v n c ≡ class_checks w n c
  class_checked n c = λ i.
      check (not (names (take n (alike.names_same i)) c.name)) reasons.DuplicateName c.name c.name 0
      ++ (parent_faults_same w v alike c.name c.parent i
      ++ (check (not (has n (above (alike.tree_same i) (parent_of (alike.tree_same i) n)))) reasons.ClassCycle c.name c.name 0
      ++ check (nat_le (different (chain (alike.tree_same i) n)) 64) reasons.ClassTooDeep c.name c.name 0))

  pub classes_checked : (n : ℕ) (cs : List ClassParts) → each_class (class_checks v) n cs ≡ each_class (class_checks w) n cs
  classes_checked n [] = refl
  classes_checked n (c ∷ cs) = ap₂ (λ (x y : List LinkFault). x ++ y) (class_checked n c) (classes_checked (suc n) cs)

  inherited_same : (n : ℕ) → along (properties v) (ancestors v n) ≡ along (properties w) (ancestors w n)
  inherited_same n = ap₂ (λ (t : List (List Name)) (r : Tree). along t (above r (parent_of r n))) alike.properties_same alike.tree_same

  pub member_checked : (n : ℕ) (c : ClassParts) → member_checks v n c ≡ member_checks w n c
  member_checked n c = λ i.
      differ_from reasons.DuplicateName c.name as_it_is [] (map (λ (k : Const). k.name) c.consts)
      ++ (property_checks_same w v alike c.name (inherited_same n i) c.props i
      ++ differ_from reasons.DuplicateName c.name as_it_is [] (map (λ (b : BodyParts). b.name) c.methods))

  pub members_checked : (n : ℕ) (cs : List ClassParts) → each_class (member_checks v) n cs ≡ each_class (member_checks w) n cs
  members_checked n [] = refl
  members_checked n (c ∷ cs) = ap₂ (λ (x y : List LinkFault). x ++ y) (member_checked n c) (members_checked (suc n) cs)

  -- ---- what they link to

  stated_links : (o : Option TypeParts) → option_map (resolved_type v) o ≡ option_map (resolved_type w) o
  stated_links o = λ i. option_map (λ (t : TypeParts). type_same w v alike t i) o

  operand_links : (b : BodyParts) (m : ImmParts) → resolved_operand v b m ≡ resolved_operand w b m
  operand_links b (imms.Class name) = ap (λ (n : ℕ). linked.Class n) (number_same w v alike name)
  operand_links b (imms.Constraint t) = ap linked.Constraint (type_same w v alike t)
  operand_links b m = refl

  code_links : (b : BodyParts) (c : CodeParts) → resolved_code v b c ≡ resolved_code w b c
  code_links b (forms.Plain c) = λ i. coded.Plain (record { op = c.op; imms = map (λ (m : ImmParts). operand_links b m i) c.imms })
  code_links b (forms.Member m) = refl

  assert_links : (b : BodyParts) (a : AssertParts) → resolved_assert v b a ≡ resolved_assert w b a
  assert_links b (claims.Local name t) = ap (asserts.Local (local_number b name)) (type_same w v alike t)
  assert_links b (claims.Stack i t) = ap (asserts.Stack i) (type_same w v alike t)

  item_links : (b : BodyParts) (item : ItemParts) → resolved_item v b item ≡ resolved_item w b item
  item_links b (items.Position q) = λ i. record { asserts = map (λ (a : AssertParts). assert_links b a i) q.asserts; code = code_links b q.code i } ∷ []
  item_links b item = refl

  pub body_links : (b : BodyParts) → resolved_body v b ≡ resolved_body w b
  body_links b = λ i. record {
    name = b.name;
    params = length b.params;
    locals = locals_of b;
    iters = b.iters;
    stated = stated_links b.stated i;
    positions = flat_map (λ (item : ItemParts). item_links b item i) b.items;
    regions = regions_from 0 b.items;
  }

  property_links : (p : PropertyParts) → resolved_property v p ≡ resolved_property w p
  property_links p = λ i. record { name = p.name; initial = p.initial; stated = stated_links p.stated i }

  pub class_links : (c : ClassParts) → resolved_class v c ≡ resolved_class w c
  class_links c = λ i. record {
    name = c.name;
    parent = parent_same w v alike c.parent i;
    consts = c.consts;
    props = map (λ (p : PropertyParts). property_links p i) c.props;
    methods = map (λ (b : BodyParts). body_links b i) c.methods;
  }
