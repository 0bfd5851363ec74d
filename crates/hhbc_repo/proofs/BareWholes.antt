-- Parts without assertions and stated types: they have the same labels, nesting and regions, are alike, are the canonical parts of the
-- repository without them, and link to it.
use Rattle.std.proofs.Common.{◌≡◌, ℕ, zero, suc, ◌+◌, Bool, true, false, ◌&&◌, nat_le, List, [], ◌∷◌, ◌++◌, map, flat_map, take, max, Option, Some, None, option_map, refl, sym, ap, ap₂, ◌∙◌, replicate}
use Rattle.std.specs.Prelude.{if◌then◌else◌, nat_eq}
use Rattle.std.specs.List.{list_any}
use Rattle.std.proofs.lemmas.List.{length-map, map-append}
use Rattle.std.proofs.lemmas.Simd.{map-map}
use Rattle.type_lattice.specs.TypeText.{named}
use Rattle.hhbc_repo.specs.declared.body.Body.{Body}
use Rattle.hhbc_repo.specs.declared.body.Position.{Position}
use Rattle.hhbc_repo.specs.declared.code.Arm.{Arm}
use Rattle.hhbc_repo.specs.declared.code.Code.{Code}
use Rattle.hhbc_repo.specs.declared.code.Code.TheVariants as coded
use Rattle.hhbc_repo.specs.declared.code.Imm.{Imm}
use Rattle.hhbc_repo.specs.declared.code.Imm.TheVariants as linked
use Rattle.hhbc_repo.specs.declared.repo.Class.{Class}
use Rattle.hhbc_repo.specs.declared.repo.Property.{Property}
use Rattle.hhbc_repo.specs.declared.parts.ArmParts.{ArmParts}
use Rattle.hhbc_repo.specs.declared.parts.BodyParts.{BodyParts}
use Rattle.hhbc_repo.specs.declared.parts.ClassParts.{ClassParts}
use Rattle.hhbc_repo.specs.declared.parts.CodeParts.{CodeParts}
use Rattle.hhbc_repo.specs.declared.parts.CodeParts.TheVariants as forms
use Rattle.hhbc_repo.specs.declared.parts.ImmParts.{ImmParts}
use Rattle.hhbc_repo.specs.declared.parts.ImmParts.TheVariants as imms
use Rattle.hhbc_repo.specs.declared.parts.ItemParts.{ItemParts}
use Rattle.hhbc_repo.specs.declared.parts.ItemParts.TheVariants as items
use Rattle.hhbc_repo.specs.declared.parts.PositionParts.{PositionParts}
use Rattle.hhbc_repo.specs.declared.parts.PropertyParts.{PropertyParts}
use Rattle.hhbc_repo.specs.Bare.{bare_position, bare_body, bare_property, bare_class, bare}
use Rattle.hhbc_repo.specs.Bodies.{built_in_names, built_in_tree}
use Rattle.hhbc_repo.specs.Bodies as repository
use Rattle.hhbc_repo.specs.Codes.{labels}
use Rattle.hhbc_repo.specs.Canonical.{targets, is_named, named_before, label_at, label_called, label_name, label_item, turns, before, canonical_operand, canonical_code, canonical_position, items_from, canonical_body, canonical_property, canonical_class, canonical}
use Rattle.hhbc_repo.specs.Fits.{Open, InTry, InCatch, nests}
use Rattle.hhbc_repo.specs.Linked.{Linked}
use Rattle.hhbc_repo.specs.LinkFaults.{Name, Whole, place_in, label_of, position_in, nesting_from}
use Rattle.hhbc_repo.specs.Resolved.{label_here, label_from, catch_from, end_from, regions_from, resolved_arm, resolved_operand, resolved_code, resolved_item, resolved_body, resolved_property, resolved_class, resolved}
use Rattle.hhbc_repo.proofs.AlikeWholes.{Alike, number_same, parent_same, type_same}
use Rattle.hhbc_repo.proofs.OtherBodies.{made_alike}

abbrev pub bare_position_parts : PositionParts → PositionParts
bare_position_parts q = record { asserts = []; code = q.code }

abbrev pub bare_item : ItemParts → ItemParts
bare_item (items.Label name) = items.Label name
bare_item (items.Position q) = items.Position (bare_position_parts q)
bare_item items.Try = items.Try
bare_item items.Catch = items.Catch
bare_item items.End = items.End

abbrev pub bare_parts : BodyParts → BodyParts
bare_parts b = record { name = b.name; params = b.params; locals = b.locals; iters = b.iters; stated = None; items = map bare_item b.items }

abbrev pub bare_property_parts : PropertyParts → PropertyParts
bare_property_parts p = record { name = p.name; initial = p.initial; stated = None }

abbrev pub bare_class_parts : ClassParts → ClassParts
bare_class_parts c = record { name = c.name; parent = c.parent; consts = c.consts; props = map bare_property_parts c.props; methods = map bare_parts c.methods }

abbrev pub bare_whole : Whole → Whole
bare_whole w = record { functions = map bare_parts w.functions; classes = map bare_class_parts w.classes }

-- ---- items

pub labels_bare : (is : List ItemParts) → flat_map label_of (map bare_item is) ≡ flat_map label_of is
labels_bare [] = refl
labels_bare (items.Label name ∷ is) = ap (λ (l : List Name). name ∷ l) (labels_bare is)
labels_bare (items.Position q ∷ is) = labels_bare is
labels_bare (items.Try ∷ is) = labels_bare is
labels_bare (items.Catch ∷ is) = labels_bare is
labels_bare (items.End ∷ is) = labels_bare is

pub positions_bare : (is : List ItemParts) → flat_map position_in (map bare_item is) ≡ map bare_position_parts (flat_map position_in is)
positions_bare [] = refl
positions_bare (items.Label name ∷ is) = positions_bare is
positions_bare (items.Position q ∷ is) = ap (λ (l : List PositionParts). bare_position_parts q ∷ l) (positions_bare is)
positions_bare (items.Try ∷ is) = positions_bare is
positions_bare (items.Catch ∷ is) = positions_bare is
positions_bare (items.End ∷ is) = positions_bare is

pub nesting_bare : (opened : ℕ) (is : List ItemParts) → nesting_from opened (map bare_item is) ≡ nesting_from opened is
nesting_bare opened [] = refl
nesting_bare opened (items.Label name ∷ is) = nesting_bare opened is
nesting_bare opened (items.Position q ∷ is) = nesting_bare opened is
nesting_bare opened (items.Try ∷ is) = ap (max opened) (nesting_bare (suc opened) is)
nesting_bare opened (items.Catch ∷ is) = nesting_bare opened is
nesting_bare zero (items.End ∷ is) = nesting_bare zero is
nesting_bare (suc opened) (items.End ∷ is) = ap (max (suc opened)) (nesting_bare opened is)

pub label_bare : (n : ℕ) (is : List ItemParts) (name : Name) → label_from n (map bare_item is) name ≡ label_from n is name
label_bare n [] name = refl
label_bare n (items.Label other ∷ is) name = ap (label_here n (place_in (other ∷ []) name)) (label_bare n is name)
label_bare n (items.Position q ∷ is) name = label_bare (suc n) is name
label_bare n (items.Try ∷ is) name = label_bare n is name
label_bare n (items.Catch ∷ is) name = label_bare n is name
label_bare n (items.End ∷ is) name = label_bare n is name

catch_bare : (n opened : ℕ) (is : List ItemParts) → catch_from n opened (map bare_item is) ≡ catch_from n opened is
catch_bare n opened [] = refl
catch_bare n opened (items.Label name ∷ is) = catch_bare n opened is
catch_bare n opened (items.Position q ∷ is) = catch_bare (suc n) opened is
catch_bare n opened (items.Try ∷ is) = catch_bare n (suc opened) is
catch_bare n zero (items.Catch ∷ is) = refl
catch_bare n (suc opened) (items.Catch ∷ is) = catch_bare n (suc opened) is
catch_bare n zero (items.End ∷ is) = refl
catch_bare n (suc opened) (items.End ∷ is) = catch_bare n opened is

end_bare : (n opened : ℕ) (is : List ItemParts) → end_from n opened (map bare_item is) ≡ end_from n opened is
end_bare n opened [] = refl
end_bare n opened (items.Label name ∷ is) = end_bare n opened is
end_bare n opened (items.Position q ∷ is) = end_bare (suc n) opened is
end_bare n opened (items.Try ∷ is) = end_bare n (suc opened) is
end_bare n opened (items.Catch ∷ is) = end_bare n opened is
end_bare n zero (items.End ∷ is) = refl
end_bare n (suc opened) (items.End ∷ is) = end_bare n opened is

regions_bare : (n : ℕ) (is : List ItemParts) → regions_from n (map bare_item is) ≡ regions_from n is
regions_bare n [] = refl
regions_bare n (items.Label name ∷ is) = regions_bare n is
regions_bare n (items.Position q ∷ is) = regions_bare (suc n) is
regions_bare n (items.Try ∷ is) = λ i. record { first = n; mid = catch_bare n 0 is i; last = end_bare n 0 is i } ∷ regions_bare n is i
regions_bare n (items.Catch ∷ is) = regions_bare n is
regions_bare n (items.End ∷ is) = regions_bare n is

pub nests_bare : (is : List ItemParts) (os : List Open) (wants : Bool) → nests (map bare_item is) os wants ≡ nests is os wants
nests_bare [] [] wants = refl
nests_bare [] (o ∷ os) wants = refl
nests_bare (items.Label name ∷ is) os wants = nests_bare is os wants
nests_bare (items.Position q ∷ is) os wants = nests_bare is os false
nests_bare (items.Try ∷ is) os wants = nests_bare is (InTry ∷ os) true
nests_bare (items.Catch ∷ is) (InTry ∷ os) false = nests_bare is (InCatch ∷ os) true
nests_bare (items.End ∷ is) (InCatch ∷ os) false = nests_bare is os false
nests_bare (items.Catch ∷ is) os wants = refl
nests_bare (items.End ∷ is) os wants = refl

-- ---- the whole is alike

pub bare_alike : (w : Whole) → Alike w (bare_whole w)
bare_alike w = made_alike bare_parts bare_class_parts
    (record {
      body_name = λ b. refl;
      body_params = λ b. refl;
      class_name = λ c. refl;
      class_parent = λ c. refl;
      class_consts = λ c. refl;
      class_props = λ c. map-map (λ (p : PropertyParts). p.name) bare_property_parts c.props;
      class_methods = λ c. refl;
    }) w

-- ---- what the parts link to

module _ (w : Whole) (b : BodyParts) where
  arms_link : (xs : List ArmParts) → map (resolved_arm (bare_parts b)) xs ≡ map (resolved_arm b) xs
  arms_link xs = λ i. map (λ (a : ArmParts). record { text = a.text; target = label_bare 0 b.items a.target i }) xs

  operand_links : (m : ImmParts) → resolved_operand (bare_whole w) (bare_parts b) m ≡ resolved_operand w b m
  operand_links (imms.Pos name) = ap (λ (n : ℕ). linked.Pos n) (label_bare 0 b.items name)
  operand_links (imms.Class name) = ap (λ (n : ℕ). linked.Class n) (number_same w (bare_whole w) (bare_alike w) name)
  operand_links (imms.Constraint t) = ap linked.Constraint (type_same w (bare_whole w) (bare_alike w) t)
  operand_links (imms.Arms xs) = ap linked.Arms (arms_link xs)
  operand_links m = refl

  code_links : (c : CodeParts) → resolved_code (bare_whole w) (bare_parts b) c ≡ resolved_code w b c
  code_links (forms.Plain c) = λ i. coded.Plain (record { op = c.op; imms = map (λ (m : ImmParts). operand_links m i) c.imms })
  code_links (forms.Member m) = refl

  items_link : (is : List ItemParts) → flat_map (resolved_item (bare_whole w) (bare_parts b)) (map bare_item is) ≡ map bare_position (flat_map (resolved_item w b) is)
  items_link [] = refl
  items_link (items.Label name ∷ is) = items_link is
  items_link (items.Position q ∷ is) = λ i. record { asserts = []; code = code_links q.code i } ∷ items_link is i
  items_link (items.Try ∷ is) = items_link is
  items_link (items.Catch ∷ is) = items_link is
  items_link (items.End ∷ is) = items_link is

  body_links : resolved_body (bare_whole w) (bare_parts b) ≡ bare_body (resolved_body w b)
  body_links = λ i. record (bare_body (resolved_body w b)) { positions = items_link b.items i; regions = regions_bare 0 b.items i }

bodies_link : (w : Whole) (bs : List BodyParts) → map (resolved_body (bare_whole w)) (map bare_parts bs) ≡ map bare_body (map (resolved_body w) bs)
bodies_link w [] = refl
bodies_link w (b ∷ bs) = λ i. body_links w b i ∷ bodies_link w bs i

properties_link : (w : Whole) (ps : List PropertyParts) → map (resolved_property (bare_whole w)) (map bare_property_parts ps) ≡ map bare_property (map (resolved_property w) ps)
properties_link w [] = refl
properties_link w (p ∷ ps) = ap (λ (l : List Property). record { name = p.name; initial = p.initial; stated = None } ∷ l) (properties_link w ps)

class_links : (w : Whole) (c : ClassParts) → resolved_class (bare_whole w) (bare_class_parts c) ≡ bare_class (resolved_class w c)
class_links w c = λ i. record {
  name = c.name;
  parent = parent_same w (bare_whole w) (bare_alike w) c.parent i;
  consts = c.consts;
  props = properties_link w c.props i;
  methods = bodies_link w c.methods i;
}

classes_link : (w : Whole) (cs : List ClassParts) → map (resolved_class (bare_whole w)) (map bare_class_parts cs) ≡ map bare_class (map (resolved_class w) cs)
classes_link w [] = refl
classes_link w (c ∷ cs) = λ i. class_links w c i ∷ classes_link w cs i

pub bare_links : (w : Whole) → resolved (bare_whole w) ≡ bare (resolved w)
bare_links w = λ i. record { functions = bodies_link w w.functions i; classes = classes_link w w.classes i }

-- ---- the canonical parts of a repository without claims

targets_bare : (all : List Position) → targets (map bare_position all) ≡ targets all
targets_bare [] = refl
targets_bare (q ∷ qs) = ap (λ (l : List ℕ). labels q.code ++ l) (targets_bare qs)

module _ (all : List Position) where
  named_same : (p : ℕ) → is_named (map bare_position all) p ≡ is_named all p
  named_same p = ap (list_any (nat_eq p)) (targets_bare all)

  before_same : (p : ℕ) → named_before (map bare_position all) p ≡ named_before all p
  before_same zero = refl
  before_same (suc p) = ap₂ (λ (n : ℕ) (c : Bool). n + (if c then 1 else 0)) (before_same p) (named_same p)

  label_same : (p : ℕ) → label_at (map bare_position all) p ≡ label_at all p
  label_same p = λ i. if nat_le p (length-map all bare_position i) && named_same p i then Some (before_same p i) else None

  name_same : (p : ℕ) → label_name (map bare_position all) p ≡ label_name all p
  name_same p = ap (λ (o : Option ℕ). named (option_map label_called o)) (label_same p)

module _ (names : List Name) (b : Body) where
  operand_bare : (m : Imm) → canonical_operand names (bare_body b) m ≡ canonical_operand names b m
  operand_bare (linked.Pos p) = ap imms.Pos (name_same b.positions p)
  operand_bare (linked.Arms xs) = λ i. imms.Arms (map (λ (a : Arm). record { text = a.text; target = name_same b.positions a.target i }) xs)
  operand_bare m = refl

  code_bare : (c : Code) → canonical_code names (bare_body b) c ≡ canonical_code names b c
  code_bare (coded.Plain c) = λ i. forms.Plain (record { op = c.op; imms = map (λ (m : Imm). operand_bare m i) c.imms })
  code_bare (coded.Member m) = refl

  copies_bare : (item : ItemParts) → bare_item item ≡ item → (n : ℕ) → replicate n item ≡ map bare_item (replicate n item)
  copies_bare item e zero = refl
  copies_bare item e (suc n) = ap₂ (λ (x : ItemParts) (xs : List ItemParts). x ∷ xs) (sym e) (copies_bare item e n)

  label_item_bare : (o : Option ℕ) → label_item o ≡ map bare_item (label_item o)
  label_item_bare None = refl
  label_item_bare (Some n) = refl

  both_bare : (xs ys us vs : List ItemParts) → xs ≡ map bare_item us → ys ≡ map bare_item vs → xs ++ ys ≡ map bare_item (us ++ vs)
  both_bare xs ys us vs e f = ap₂ (λ (x y : List ItemParts). x ++ y) e f ∙ sym (map-append bare_item us vs)

  before_bare : (p : ℕ) → before (bare_body b) p ≡ map bare_item (before b p)
  before_bare p =
      both_bare (turns b.regions p) (label_item (label_at (map bare_position b.positions) p)) (turns b.regions p) (label_item (label_at b.positions p))
      (both_bare _ _ _ _ (copies_bare items.End refl _) (both_bare _ _ _ _ (copies_bare items.Catch refl _) (copies_bare items.Try refl _)))
      (ap label_item (label_same b.positions p) ∙ label_item_bare (label_at b.positions p))

  items_bare : (p : ℕ) (qs : List Position) → items_from names (bare_body b) p (map bare_position qs) ≡ map bare_item (items_from names b p qs)
  items_bare p [] = before_bare p
  items_bare p (q ∷ qs) =
      both_bare (before (bare_body b) p) (items.Position (canonical_position names (bare_body b) (bare_position q)) ∷ items_from names (bare_body b) (suc p) (map bare_position qs))
      (before b p) (items.Position (canonical_position names b q) ∷ items_from names b (suc p) qs) (before_bare p)
      (λ i. items.Position (record { asserts = []; code = code_bare q.code i }) ∷ items_bare (suc p) qs i)

  body_bare : canonical_body names (bare_body b) ≡ bare_parts (canonical_body names b)
  body_bare = λ i. record { name = b.name; params = take b.params b.locals; locals = (canonical_body names b).locals; iters = b.iters; stated = None; items = items_bare 0 b.positions i }

bodies_bare : (names : List Name) (bs : List Body) → map (canonical_body names) (map bare_body bs) ≡ map bare_parts (map (canonical_body names) bs)
bodies_bare names [] = refl
bodies_bare names (b ∷ bs) = λ i. body_bare names b i ∷ bodies_bare names bs i

property_list_bare : (names : List Name) (ps : List Property) → map (canonical_property names) (map bare_property ps) ≡ map bare_property_parts (map (canonical_property names) ps)
property_list_bare names [] = refl
property_list_bare names (p ∷ ps) = ap (λ (l : List PropertyParts). record { name = p.name; initial = p.initial; stated = None } ∷ l) (property_list_bare names ps)

classes_bare : (names : List Name) (cs : List Class) → map (canonical_class names) (map bare_class cs) ≡ map bare_class_parts (map (canonical_class names) cs)
classes_bare names [] = refl
classes_bare names (c ∷ cs) = λ i. record {
  name = c.name;
  parent = (canonical_class names c).parent;
  consts = c.consts;
  props = property_list_bare names c.props i;
  methods = bodies_bare names c.methods i;
} ∷ classes_bare names cs i

pub bare_names : (r : Linked) → repository.class_names (bare r) ≡ repository.class_names r
bare_names r = ap (λ (l : List Name). built_in_names ++ l) (map-map (λ (c : Class). c.name) bare_class r.classes)

pub bare_canonical : (r : Linked) → canonical (bare r) ≡ bare_whole (canonical r)
bare_canonical r =
    ap (λ (l : List Name). record { functions = map (canonical_body l) (map bare_body r.functions); classes = map (canonical_class l) (map bare_class r.classes) }) (bare_names r)
    ∙ (λ i. record { functions = bodies_bare (repository.class_names r) r.functions i; classes = classes_bare (repository.class_names r) r.classes i })
