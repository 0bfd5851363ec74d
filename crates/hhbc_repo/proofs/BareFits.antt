-- Where assertions and stated types fit, parts fit as they do without them; and in parts that fit, they do.
use Rattle.std.proofs.Common.{◌≡◌, Bool, true, false, ◌&&◌, nat_le, List, [], ◌∷◌, map, flat_map, refl, sym, ap, ap₂}
use Rattle.std.specs.List.{list_all}
use Rattle.std.proofs.lemmas.Bool.{and_from, and_parts}
use Rattle.hhas_lex.specs.Spelling.{is_word}
use Rattle.type_lattice.specs.InRange.{where_there}
use Rattle.hhbc_repo.specs.declared.parts.BodyParts.{BodyParts}
use Rattle.hhbc_repo.specs.declared.parts.ClassParts.{ClassParts}
use Rattle.hhbc_repo.specs.declared.parts.ItemParts.{ItemParts}
use Rattle.hhbc_repo.specs.declared.parts.ItemParts.TheVariants as items
use Rattle.hhbc_repo.specs.declared.parts.PositionParts.{PositionParts}
use Rattle.hhbc_repo.specs.declared.parts.PropertyParts.{PropertyParts}
use Rattle.hhbc_repo.specs.Fits.{is_label, code_fits, assert_fits, position_fits, item_fits, body_fits, const_fits, initial_fits, property_fits, class_fits, parts_fit}
use Rattle.hhbc_repo.specs.LinkFaults.{Whole, position_in, positions_of}
use Rattle.hhbc_repo.specs.TypeFits.{type_fits}
use Rattle.hhbc_repo.proofs.BareWholes.{bare_item, bare_parts, bare_property_parts, bare_class_parts, bare_whole, nests_bare}
use Rattle.hhbc_repo.proofs.PartsThatFit.{body_facts, class_facts}

-- ---- a body

abbrev pub asserts_fit : List PositionParts → Bool
asserts_fit qs = list_all (λ (q : PositionParts). list_all assert_fits q.asserts) qs

pub record ClaimsFit (b : BodyParts) : Type 0 where
  pub stated : where_there type_fits b.stated ≡ true
  pub asserts : asserts_fit (positions_of b) ≡ true

items_bare : (is : List ItemParts) → asserts_fit (flat_map position_in is) ≡ true → list_all item_fits (map bare_item is) ≡ list_all item_fits is
items_bare [] h = refl
items_bare (items.Label name ∷ is) h = ap (λ (c : Bool). is_label name && c) (items_bare is h)
items_bare (items.Position q ∷ is) h =
    let p = and_parts (list_all assert_fits q.asserts) (asserts_fit (flat_map position_in is)) h in
    ap₂ (λ (a c : Bool). (a && code_fits q.code) && c) (sym p.0) (items_bare is p.1)
items_bare (items.Try ∷ is) h = items_bare is h
items_bare (items.Catch ∷ is) h = items_bare is h
items_bare (items.End ∷ is) h = items_bare is h

body_bare : (b : BodyParts) → ClaimsFit b → body_fits (bare_parts b) ≡ body_fits b
body_bare b c =
    let stated : true ≡ where_there type_fits b.stated = sym c.stated in
    λ i. is_word b.name && (list_all is_word b.params && (list_all is_word b.locals && (nat_le b.iters 65535
    && (stated i && (nests_bare b.items [] false i && items_bare b.items c.asserts i)))))

items_claims : (is : List ItemParts) → list_all item_fits is ≡ true → asserts_fit (flat_map position_in is) ≡ true
items_claims [] h = refl
items_claims (items.Label name ∷ is) h = items_claims is (and_parts (is_label name) (list_all item_fits is) h).1
items_claims (items.Position q ∷ is) h =
    let p = and_parts (position_fits q) (list_all item_fits is) h in
    and_from (list_all assert_fits q.asserts) (asserts_fit (flat_map position_in is)) (and_parts (list_all assert_fits q.asserts) (code_fits q.code) p.0).0 (items_claims is p.1)
items_claims (items.Try ∷ is) h = items_claims is h
items_claims (items.Catch ∷ is) h = items_claims is h
items_claims (items.End ∷ is) h = items_claims is h

body_claims : (b : BodyParts) → body_fits b ≡ true → ClaimsFit b
body_claims b h = let f = body_facts b h in record { stated = f.stated; asserts = items_claims b.items f.items }

abbrev pub BodiesClaimsFit : List BodyParts → Type 0
BodiesClaimsFit [] = Unit {0}
BodiesClaimsFit (b ∷ bs) = ClaimsFit b × BodiesClaimsFit bs

bodies_bare : (bs : List BodyParts) → BodiesClaimsFit bs → list_all body_fits (map bare_parts bs) ≡ list_all body_fits bs
bodies_bare [] c = refl
bodies_bare (b ∷ bs) c = ap₂ (λ (x y : Bool). x && y) (body_bare b c.0) (bodies_bare bs c.1)

bodies_claims : (bs : List BodyParts) → list_all body_fits bs ≡ true → BodiesClaimsFit bs
bodies_claims [] h = tt
bodies_claims (b ∷ bs) h = let p = and_parts (body_fits b) (list_all body_fits bs) h in (body_claims b p.0, bodies_claims bs p.1)

-- ---- classes

abbrev pub properties_fit : List PropertyParts → Bool
properties_fit ps = list_all (λ (p : PropertyParts). where_there type_fits p.stated) ps

properties_bare : (ps : List PropertyParts) → properties_fit ps ≡ true → list_all property_fits (map bare_property_parts ps) ≡ list_all property_fits ps
properties_bare [] h = refl
properties_bare (p ∷ ps) h =
    let q = and_parts (where_there type_fits p.stated) (properties_fit ps) h in
    ap₂ (λ (x y : Bool). (is_word p.name && (initial_fits p.initial && x)) && y) (sym q.0) (properties_bare ps q.1)

properties_claims : (ps : List PropertyParts) → list_all property_fits ps ≡ true → properties_fit ps ≡ true
properties_claims [] h = refl
properties_claims (p ∷ ps) h =
    let stated = where_there type_fits p.stated in
    let a = and_parts (property_fits p) (list_all property_fits ps) h in
    let b = and_parts (is_word p.name) (initial_fits p.initial && stated) a.0 in
    and_from stated (properties_fit ps) (and_parts (initial_fits p.initial) stated b.1).1 (properties_claims ps a.1)

abbrev pub ClassesClaimsFit : List ClassParts → Type 0
ClassesClaimsFit [] = Unit {0}
ClassesClaimsFit (c ∷ cs) = (properties_fit c.props ≡ true) × BodiesClaimsFit c.methods × ClassesClaimsFit cs

classes_bare : (cs : List ClassParts) → ClassesClaimsFit cs → list_all class_fits (map bare_class_parts cs) ≡ list_all class_fits cs
classes_bare [] c = refl
classes_bare (k ∷ ks) c =
    ap₂ (λ (x y : Bool). x && y)
    (ap₂ (λ (x y : Bool). is_word k.name && (where_there is_word k.parent && (list_all const_fits k.consts && (x && y)))) (properties_bare k.props c.0) (bodies_bare k.methods c.1))
    (classes_bare ks c.2)

classes_claims : (cs : List ClassParts) → list_all class_fits cs ≡ true → ClassesClaimsFit cs
classes_claims [] h = tt
classes_claims (c ∷ cs) h =
    let p = and_parts (class_fits c) (list_all class_fits cs) h in
    let f = class_facts c p.0 in
    (properties_claims c.props f.props, bodies_claims c.methods f.methods, classes_claims cs p.1)

-- ---- all of it

abbrev pub AllClaimsFit : Whole → Type 0
AllClaimsFit w = BodiesClaimsFit w.functions × ClassesClaimsFit w.classes

pub fits_bare : (w : Whole) → AllClaimsFit w → parts_fit (bare_whole w).functions (bare_whole w).classes ≡ parts_fit w.functions w.classes
fits_bare w c = ap₂ (λ (x y : Bool). x && y) (bodies_bare w.functions c.0) (classes_bare w.classes c.1)

pub all_claims_fit : (w : Whole) → parts_fit w.functions w.classes ≡ true → AllClaimsFit w
all_claims_fit w h =
    let p = and_parts (list_all body_fits w.functions) (list_all class_fits w.classes) h in
    (bodies_claims w.functions p.0, classes_claims w.classes p.1)
