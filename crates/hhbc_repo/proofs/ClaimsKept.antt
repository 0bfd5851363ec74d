-- A repository that some text spells still has a spelling with other claims, where these keep to their ranges.
use Rattle.std.proofs.Common.{◌≡◌, ℕ, Bool, true, List, [], ◌∷◌, ◌++◌, map, flat_map, take, drop, length, Option, Some, None, option_map, refl, sym, ap, ap₂, subst, ◌∙◌}
use Rattle.std.specs.List.{list_all}
use Rattle.std.proofs.lemmas.Bool.{and_from, and_parts}
use Rattle.std.proofs.lemmas.Grind.{flat_map-append}
use Rattle.std.proofs.lemmas.List.{take-append-drop}
use Rattle.std.proofs.lemmas.Simd.{map-map}
use Rattle.hhas_lex.specs.Spelling.{is_word}
use Rattle.type_lattice.specs.declared.types.HType.{HType}
use Rattle.type_lattice.specs.InRange.{where_there, is_proper}
use Rattle.hhbc_repo.specs.declared.body.Assert.{Assert}
use Rattle.hhbc_repo.specs.declared.body.Assert.TheVariants as asserts
use Rattle.hhbc_repo.specs.declared.body.Body.{Body}
use Rattle.hhbc_repo.specs.declared.body.Position.{Position}
use Rattle.hhbc_repo.specs.declared.link_fault.LinkFault.{LinkFault}
use Rattle.hhbc_repo.specs.declared.link_fault.LinkKind.TheVariants as reasons
use Rattle.hhbc_repo.specs.declared.parts.BodyParts.{BodyParts}
use Rattle.hhbc_repo.specs.declared.parts.ClassParts.{ClassParts}
use Rattle.hhbc_repo.specs.declared.parts.TypeParts.{TypeParts}
use Rattle.hhbc_repo.specs.declared.repo.Class.{Class}
use Rattle.hhbc_repo.specs.declared.repo.Property.{Property}
use Rattle.hhbc_repo.specs.Bare.{bare_position, bare_body, bare_class, bare}
use Rattle.hhbc_repo.specs.Bodies.{built_in_names}
use Rattle.hhbc_repo.specs.Bodies as repository
use Rattle.hhbc_repo.specs.Canonical.{local_name, canonical_assert, canonical_position, canonical_body, canonical_property, canonical_class, canonical}
use Rattle.hhbc_repo.specs.Claims.{position_claims_within, body_claims_within, property_claims_within, class_claims_within, claims_within}
use Rattle.hhbc_repo.specs.Fits.{is_index, assert_fits, body_fits, class_fits, parts_fit}
use Rattle.hhbc_repo.specs.Linked.{Linked}
use Rattle.hhbc_repo.specs.LinkFaults.{Name, Whole, Place, place_in, as_it_is, dollar, known, class_names, locals_of, positions_of, local_faults, type_faults, stated_faults, assert_faults, body_faults, method_places}
use Rattle.hhbc_repo.specs.Names.{distinct}
use Rattle.hhbc_repo.specs.Resolved.{or_zero, local_number, resolved_type, resolved_assert, resolved_position, resolved_body, resolved_property, resolved_class, resolved, LinksTo}
use Rattle.hhbc_repo.specs.Spelled.{HasSpelling}
use Rattle.hhbc_repo.specs.TypeFits.{type_fits}
use Rattle.hhbc_repo.specs.Within.{Bounds, bounds_of, local_within, assert_within}
use Rattle.hhbc_repo.specs.WrittenTypes.{canonical_type}
use Rattle.hhbc_repo.proofs.AlikeWholes.{place, places_called, of_class}
use Rattle.hhbc_repo.proofs.BareFaults.{asserts_faults, ClaimsPass, BodiesClaimsPass, properties_faults, ClassesClaimsPass, faults_bare, all_claims}
use Rattle.hhbc_repo.proofs.BareFits.{asserts_fit, ClaimsFit, BodiesClaimsFit, properties_fit, ClassesClaimsFit, fits_bare, all_claims_fit}
use Rattle.hhbc_repo.proofs.BareWholes.{bare_parts, bare_class_parts, bare_whole, bare_alike, bare_links, bare_canonical}
use Rattle.hhbc_repo.proofs.CanonicalItems.{linked_positions}
use Rattle.hhbc_repo.proofs.Elements.{same_first, same_rest}
use Rattle.hhbc_repo.proofs.LabelsBack.{positions_back}
use Rattle.hhbc_repo.proofs.NoFaults.{empty_left, empty_right, differ, classes_differ, none_fails, faultless}
use Rattle.hhbc_repo.proofs.NumbersPut.{there_names}
use Rattle.hhbc_repo.proofs.PartsThatFit.{body_facts, class_facts}
use Rattle.hhbc_repo.proofs.SpelledTypes.{all_both}
use Rattle.hhbc_repo.proofs.TypesForth.{word_at, place_of_number, type_canonical_fits, type_forth}

-- the locals of a body that passes have different names
locals_differ : (p : Place) → body_faults p ≡ [] → distinct (locals_of p.body) ≡ true
locals_differ p e = differ reasons.DuplicateName p.owner dollar [] (locals_of p.body) (faultless p e).locals

-- what is kept of a body, of bodies and of classes: their claims fit and pass, and they link back

record BodyKept (w : Whole) (all : List Name) (b : Body) (owner : Name) : Type 0 where
  fits : ClaimsFit (canonical_body all b)
  claims : ClaimsPass (place w (canonical_body all b) owner)
  same : b ≡ resolved_body w (canonical_body all b)

record BodiesKept (w : Whole) (all : List Name) (owned : Name → Name) (bs : List Body) : Type 0 where
  fit : BodiesClaimsFit (map (canonical_body all) bs)
  claims : BodiesClaimsPass w owned (map (canonical_body all) bs)
  same : bs ≡ map (resolved_body w) (map (canonical_body all) bs)

record ClassesKept (w : Whole) (all : List Name) (cs : List Class) : Type 0 where
  fit : ClassesClaimsFit (map (canonical_class all) cs)
  claims : ClassesClaimsPass w (map (canonical_class all) cs)
  same : cs ≡ map (resolved_class w) (map (canonical_class all) cs)

-- ---- claims of a whole whose classes have these names, which are different words

module _ (w : Whole) (all : List Name) (called : class_names w ≡ all) (words : list_all is_word all ≡ true) (apart : distinct all ≡ true) where
  abbrev typed : HType → TypeParts
  typed t = canonical_type all t

  type_kept : (owner : Name) (t : HType) → is_proper (length all) t ≡ true → (type_faults w owner (typed t) ≡ []) × (resolved_type w (typed t) ≡ t)
  type_kept owner t h =
      subst (λ (l : List Name). distinct l ≡ true → is_proper (length l) t ≡ true → (type_faults w owner (canonical_type l t) ≡ []) × (resolved_type w (canonical_type l t) ≡ t)) called
      (λ d k. type_forth w d owner t k) apart h

  stated_kept : (owner : Name) (o : Option HType) → where_there (is_proper (length all)) o ≡ true
      → (where_there type_fits (option_map typed o) ≡ true) × (stated_faults w owner (option_map typed o) ≡ []) × (option_map (resolved_type w) (option_map typed o) ≡ o)
  stated_kept owner None h = (refl, refl, refl)
  stated_kept owner (Some t) h = let k = type_kept owner t h in (type_canonical_fits all t words h, k.0, ap (λ (u : HType). Some u) k.1)

  module _ (b : Body) (owner : Name) (local_words : list_all is_word b.locals ≡ true) (locals_apart : distinct b.locals ≡ true) where
    abbrev made : BodyParts
    made = canonical_body all b

    abbrev here : Place
    here = place w made owner

    abbrev bounds : Bounds
    bounds = bounds_of (length all) b

    local_kept : (l : ℕ) → local_within bounds l ≡ true → (is_word (local_name b l) ≡ true) × (local_faults here (local_name b l) ≡ []) × (local_number made (local_name b l) ≡ l)
    local_kept l h =
        let there : place_in (locals_of made) (local_name b l) ≡ Some l =
        ap (λ (ls : List Name). place_in ls (local_name b l)) (take-append-drop b.params b.locals) ∙ place_of_number b.locals l locals_apart h in (
          word_at b.locals l local_words h,
          ap (λ (c : Bool). known c owner (dollar (local_name b l))) (there_names (locals_of made) (local_name b l) l there),
          ap or_zero there,
        )

    assert_kept : (a : Assert) → assert_within bounds a ≡ true
        → (assert_fits (canonical_assert all b a) ≡ true) × (assert_faults here (canonical_assert all b a) ≡ []) × (resolved_assert w made (canonical_assert all b a) ≡ a)
    assert_kept (asserts.Local l t) h =
        let p = and_parts (local_within bounds l) (is_proper (length all) t) h in
        let k = local_kept l p.0 in
        let u = type_kept owner t p.1 in (
          and_from (is_word (local_name b l)) (type_fits (typed t)) k.0 (type_canonical_fits all t words p.1),
          ap₂ (λ (x y : List LinkFault). x ++ y) k.1 u.0,
          ap₂ (λ (n : ℕ) (v : HType). asserts.Local n v) k.2 u.1,
        )
    assert_kept (asserts.Stack n t) h =
        let p = and_parts (is_index n) (is_proper (length all) t) h in
        let u = type_kept owner t p.1 in
        (and_from (is_index n) (type_fits (typed t)) p.0 (type_canonical_fits all t words p.1), u.0, ap (λ (v : HType). asserts.Stack n v) u.1)

    asserts_kept : (xs : List Assert) → list_all (assert_within bounds) xs ≡ true
        → (list_all assert_fits (map (canonical_assert all b) xs) ≡ true) × (flat_map (assert_faults here) (map (canonical_assert all b) xs) ≡ [])
        × (map (resolved_assert w made) (map (canonical_assert all b) xs) ≡ xs)
    asserts_kept [] h = (refl, refl, refl)
    asserts_kept (x ∷ xs) h =
        let p = and_parts (assert_within bounds x) (list_all (assert_within bounds) xs) h in
        let one = assert_kept x p.0 in
        let more = asserts_kept xs p.1 in (
          and_from (assert_fits (canonical_assert all b x)) (list_all assert_fits (map (canonical_assert all b) xs)) one.0 more.0,
          ap₂ (λ (x y : List LinkFault). x ++ y) one.1 more.1,
          ap₂ (λ (x : Assert) (xs : List Assert). x ∷ xs) one.2 more.2,
        )

    -- the codes come back as they do without claims
    positions_kept : (qs : List Position) → list_all (position_claims_within bounds) qs ≡ true → map bare_position qs ≡ map bare_position (map (resolved_position w made) (map (canonical_position all b) qs))
        → (asserts_fit (map (canonical_position all b) qs) ≡ true) × (asserts_faults here (map (canonical_position all b) qs) ≡ []) × (qs ≡ map (resolved_position w made) (map (canonical_position all b) qs))
    positions_kept [] h e = (refl, refl, refl)
    positions_kept (q ∷ qs) h e =
        let now = resolved_position w made (canonical_position all b q) in
        let later = map (resolved_position w made) (map (canonical_position all b) qs) in
        let first = same_first (bare_position q) (bare_position now) (map bare_position qs) (map bare_position later) e in
        let rest = same_rest (bare_position q) (bare_position now) (map bare_position qs) (map bare_position later) e in
        let p = and_parts (position_claims_within bounds q) (list_all (position_claims_within bounds) qs) h in
        let one = asserts_kept q.asserts p.0 in
        let more = positions_kept qs p.1 rest in
        let claims : q.asserts ≡ now.asserts = sym one.2 in
        let code : q.code ≡ now.code = ap (λ (x : Position). x.code) first in (
          and_from (list_all assert_fits (map (canonical_assert all b) q.asserts)) (asserts_fit (map (canonical_position all b) qs)) one.0 more.0,
          ap₂ (λ (x y : List LinkFault). x ++ y) one.1 more.1,
          λ i. record { asserts = claims i; code = code i } ∷ more.2 i,
        )

    body_kept : body_claims_within (length all) b ≡ true → bare_body b ≡ bare_body (resolved_body w made) → BodyKept w all b owner
    body_kept h e =
        let p = and_parts (where_there (is_proper (length all)) b.stated) (list_all (position_claims_within bounds) b.positions) h in
        let listed : positions_of made ≡ map (canonical_position all b) b.positions = positions_back all b in
        let linked : (resolved_body w made).positions ≡ map (resolved_position w made) (map (canonical_position all b) b.positions) =
        linked_positions w made made.items ∙ ap (map (resolved_position w made)) listed in
        let s = stated_kept owner b.stated p.0 in
        let k = positions_kept b.positions p.1 (ap (λ (x : Body). x.positions) e ∙ ap (map bare_position) linked) in
        let name = ap (λ (x : Body). x.name) e in
        let params = ap (λ (x : Body). x.params) e in
        let locals = ap (λ (x : Body). x.locals) e in
        let iters = ap (λ (x : Body). x.iters) e in
        let regions = ap (λ (x : Body). x.regions) e in
        let stated : b.stated ≡ (resolved_body w made).stated = sym s.2 in
        let positions : b.positions ≡ (resolved_body w made).positions = k.2 ∙ sym linked in
        record {
          fits = record { stated = s.0; asserts = ap asserts_fit listed ∙ k.0 };
          claims = record { stated = s.1; asserts = ap (asserts_faults here) listed ∙ k.1 };
          same = λ i. record { name = name i; params = params i; locals = locals i; iters = iters i; stated = stated i; positions = positions i; regions = regions i };
        }

  -- ---- bodies

  words_of_locals : (b : Body) → body_fits (bare_parts (canonical_body all b)) ≡ true → list_all is_word b.locals ≡ true
  words_of_locals b h =
      let f = body_facts (bare_parts (canonical_body all b)) h in
      subst (λ (l : List Name). list_all is_word l ≡ true) (take-append-drop b.params b.locals) (all_both is_word (take b.params b.locals) (drop b.params b.locals) f.params f.locals)

  bodies_kept : (owned : Name → Name) (bs : List Body) → list_all body_fits (map bare_parts (map (canonical_body all) bs)) ≡ true
      → flat_map body_faults (places_called (bare_whole w) owned (map bare_parts (map (canonical_body all) bs))) ≡ []
      → map bare_body bs ≡ map bare_body (map (resolved_body w) (map (canonical_body all) bs)) → list_all (body_claims_within (length all)) bs ≡ true → BodiesKept w all owned bs
  bodies_kept owned [] f p e h = record { fit = tt; claims = tt; same = refl }
  bodies_kept owned (b ∷ bs) f p e h =
      let parts = canonical_body all b in
      let now = resolved_body w parts in
      let later = map (resolved_body w) (map (canonical_body all) bs) in
      let checks = body_faults (place (bare_whole w) (bare_parts parts) (owned b.name)) in
      let others = flat_map body_faults (places_called (bare_whole w) owned (map bare_parts (map (canonical_body all) bs))) in
      let g = and_parts (body_fits (bare_parts parts)) (list_all body_fits (map bare_parts (map (canonical_body all) bs))) f in
      let k = and_parts (body_claims_within (length all) b) (list_all (body_claims_within (length all)) bs) h in
      let different = subst (λ (l : List Name). distinct l ≡ true) (take-append-drop b.params b.locals) (locals_differ (place (bare_whole w) (bare_parts parts) (owned b.name)) (empty_left checks others p)) in
      let one = body_kept b (owned b.name) (words_of_locals b g.0) different k.0 (same_first (bare_body b) (bare_body now) (map bare_body bs) (map bare_body later) e) in
      let more = bodies_kept owned bs g.1 (empty_right checks others p) (same_rest (bare_body b) (bare_body now) (map bare_body bs) (map bare_body later) e) k.1 in
      record { fit = (one.fits, more.fit); claims = (one.claims, more.claims); same = λ i. one.same i ∷ more.same i }

  -- ---- classes

  properties_kept : (owner : Name) (ps : List Property) → list_all (property_claims_within (length all)) ps ≡ true
      → (properties_fit (map (canonical_property all) ps) ≡ true) × (properties_faults w owner (map (canonical_property all) ps) ≡ []) × (ps ≡ map (resolved_property w) (map (canonical_property all) ps))
  properties_kept owner [] h = (refl, refl, refl)
  properties_kept owner (p ∷ ps) h =
      let k = and_parts (property_claims_within (length all) p) (list_all (property_claims_within (length all)) ps) h in
      let one = stated_kept owner p.stated k.0 in
      let more = properties_kept owner ps k.1 in
      let stated = sym one.2 in (
        and_from (where_there type_fits (option_map typed p.stated)) (properties_fit (map (canonical_property all) ps)) one.0 more.0,
        ap₂ (λ (x y : List LinkFault). x ++ y) one.1 more.1,
        λ i. record { name = p.name; initial = p.initial; stated = stated i } ∷ more.2 i,
      )

  classes_kept : (cs : List Class) → list_all class_fits (map bare_class_parts (map (canonical_class all) cs)) ≡ true
      → flat_map body_faults (flat_map (method_places (bare_whole w)) (map bare_class_parts (map (canonical_class all) cs))) ≡ []
      → map bare_class cs ≡ map bare_class (map (resolved_class w) (map (canonical_class all) cs)) → list_all (class_claims_within (length all)) cs ≡ true → ClassesKept w all cs
  classes_kept [] f p e h = record { fit = tt; claims = tt; same = refl }
  classes_kept (c ∷ cs) f p e h =
      let parts = canonical_class all c in
      let now = resolved_class w parts in
      let later = map (resolved_class w) (map (canonical_class all) cs) in
      let bare_now = bare_class_parts parts in
      let bare_later = map bare_class_parts (map (canonical_class all) cs) in
      let checks = flat_map body_faults (method_places (bare_whole w) bare_now) in
      let others = flat_map body_faults (flat_map (method_places (bare_whole w)) bare_later) in
      let split = sym (flat_map-append body_faults (method_places (bare_whole w) bare_now) (flat_map (method_places (bare_whole w)) bare_later)) ∙ p in
      let g = and_parts (class_fits bare_now) (list_all class_fits bare_later) f in
      let k = and_parts (class_claims_within (length all) c) (list_all (class_claims_within (length all)) cs) h in
      let l = and_parts (list_all (property_claims_within (length all)) c.props) (list_all (body_claims_within (length all)) c.methods) k.0 in
      let first = same_first (bare_class c) (bare_class now) (map bare_class cs) (map bare_class later) e in
      let props = properties_kept c.name c.props l.0 in
      let methods = bodies_kept (of_class parts) c.methods (class_facts bare_now g.0).methods (empty_left checks others split) (ap (λ (x : Class). x.methods) first) l.1 in
      let more = classes_kept cs g.1 (empty_right checks others split) (same_rest (bare_class c) (bare_class now) (map bare_class cs) (map bare_class later) e) k.1 in
      let parent = ap (λ (x : Class). x.parent) first in
      record {
        fit = (props.0, methods.fit, more.fit);
        claims = (props.1, methods.claims, more.claims);
        same = λ i. record { name = c.name; parent = parent i; consts = c.consts; props = props.2 i; methods = methods.same i } ∷ more.same i;
      }

-- ---- repositories

canonical_names : (s : Linked) → class_names (canonical s) ≡ repository.class_names s
canonical_names s = ap (λ (l : List Name). built_in_names ++ l) (map-map (λ (c : ClassParts). c.name) (canonical_class (repository.class_names s)) s.classes)

words_of_classes : (all : List Name) (cs : List Class) → list_all class_fits (map bare_class_parts (map (canonical_class all) cs)) ≡ true → list_all is_word (map (λ (c : Class). c.name) cs) ≡ true
words_of_classes all [] h = refl
words_of_classes all (c ∷ cs) h =
    let parts = bare_class_parts (canonical_class all c) in
    let p = and_parts (class_fits parts) (list_all class_fits (map bare_class_parts (map (canonical_class all) cs))) h in
    and_from (is_word c.name) (list_all is_word (map (λ (c : Class). c.name) cs)) (class_facts parts p.0).name (words_of_classes all cs p.1)

-- without its claims it has a spelling too
pub bare_spelled : (r : Linked) → HasSpelling r → HasSpelling (bare r)
bare_spelled r h =
    let w = canonical r in
    let e = sym (bare_canonical r) in
    record {
      fits = subst (λ (v : Whole). parts_fit v.functions v.classes ≡ true) e (fits_bare w (all_claims_fit w h.fits) ∙ h.fits);
      links = subst (λ (v : Whole). LinksTo v (bare r)) e (record { sound = faults_bare w (all_claims w h.links.sound) ∙ h.links.sound; is = ap bare h.links.is ∙ sym (bare_links w) });
    }

-- and from there with claims that keep to their ranges
pub claims_spelled : (s : Linked) → HasSpelling (bare s) → claims_within s ≡ true → HasSpelling s
claims_spelled s h c =
    let w = canonical s in
    let v = bare_whole w in
    let all = repository.class_names s in
    let n = length all in
    let fits = subst (λ (v : Whole). parts_fit v.functions v.classes ≡ true) (bare_canonical s) h.fits in
    let links = subst (λ (v : Whole). LinksTo v (bare s)) (bare_canonical s) h.links in
    let e : bare s ≡ bare (resolved w) = links.is ∙ bare_links w in
    let f = and_parts (list_all body_fits v.functions) (list_all class_fits v.classes) fits in
    let p = none_fails v links.sound in
    let k = and_parts (list_all (body_claims_within n) s.functions) (list_all (class_claims_within n) s.classes) c in
    let called = canonical_names s in
    let words : list_all is_word all ≡ true = all_both is_word built_in_names (map (λ (c : Class). c.name) s.classes) refl (words_of_classes all s.classes f.1) in
    let apart : distinct all ≡ true = subst (λ (l : List Name). distinct l ≡ true) ((bare_alike w).names_same ∙ called) (classes_differ v built_in_names v.classes refl p.classes) in
    let fs = bodies_kept w all called words apart as_it_is s.functions f.0 p.bodies (ap (λ (x : Linked). x.functions) e) k.0 in
    let ks = classes_kept w all called words apart s.classes f.1 p.methods (ap (λ (x : Linked). x.classes) e) k.1 in
    record {
      fits = sym (fits_bare w (fs.fit, ks.fit)) ∙ fits;
      links = record {
        sound = sym (faults_bare w (fs.claims, ks.claims)) ∙ links.sound;
        is = λ i. record { functions = fs.same i; classes = ks.same i };
      };
    }

pub claims_kept : (r s : Linked) → bare r ≡ bare s → claims_within s ≡ true → HasSpelling r → HasSpelling s
claims_kept r s e c h = claims_spelled s (subst HasSpelling e (bare_spelled r h)) c
