-- Bodies and classes that fit and pass the checks of linking come back, each with the others of its list.
use Rattle.std.proofs.Common.{◌≡◌, ℕ, suc, true, not, ◌&&◌, nat_le, List, [], ◌∷◌, ◌++◌, map, flat_map, take, Option, Some, None, option_map, is_some, refl, sym, ap, ap₂, ◌∙◌}
use Rattle.std.specs.List.{list_all}
use Rattle.std.proofs.lemmas.Bool.{and_from, and_parts}
use Rattle.std.proofs.lemmas.Grind.{flat_map-append}
use Rattle.hhas_lex.specs.Spelling.{is_word}
use Rattle.type_lattice.specs.Classes.{chain, has}
use Rattle.type_lattice.specs.TypeText.{named, class_name}
use Rattle.type_lattice.specs.InRange.{where_there}
use Rattle.hhbc_repo.specs.declared.link_fault.LinkKind.TheVariants as reasons
use Rattle.hhbc_repo.specs.declared.parts.BodyParts.{BodyParts}
use Rattle.hhbc_repo.specs.declared.parts.ClassParts.{ClassParts}
use Rattle.hhbc_repo.specs.declared.parts.PropertyParts.{PropertyParts}
use Rattle.hhbc_repo.specs.declared.parts.TypeParts.{TypeParts}
use Rattle.hhbc_repo.specs.declared.repo.Const.{Const}
use Rattle.hhbc_repo.specs.Canonical.{canonical_body, canonical_property, canonical_class}
use Rattle.hhbc_repo.specs.Fits.{body_fits, property_fits, initial_fits, class_fits}
use Rattle.hhbc_repo.specs.LinkFaults.{Name, Whole, names, as_it_is, check, class_names, class_of, parent_in, parents, ancestors, different, properties, along, differ_from, stated_faults, parent_faults, body_faults, method_places, class_checks, property_checks, member_checks, each_class}
use Rattle.hhbc_repo.specs.Resolved.{resolved_body, resolved_property, resolved_class}
use Rattle.hhbc_repo.specs.TypeFits.{type_fits}
use Rattle.hhbc_repo.proofs.AlikeWholes.{place, places_called, of_class, parent_same, type_same}
use Rattle.hhbc_repo.proofs.BodiesBack.{BodyBack, body_back}
use Rattle.hhbc_repo.proofs.TypesBack.{name_at_place, stated_back}
use Rattle.hhbc_repo.proofs.NoFaults.{empty_left, empty_right, passes}
use Rattle.hhbc_repo.proofs.PartsThatFit.{class_facts, class_from}
use Rattle.hhbc_repo.proofs.Checking.{both_pass}
use Rattle.hhbc_repo.proofs.RelaidWholes.{relaid_body, relaid_class, relaid, relaid_alike}

-- ---- bodies

pub record AllBack (w : Whole) (called : Name → Name) (bs : List BodyParts) : Type 0 where
  pub same : map (canonical_body (class_names w)) (map (resolved_body w) bs) ≡ map (relaid_body w) bs
  pub fit : list_all body_fits (map (relaid_body w) bs) ≡ true
  pub resolve : map (resolved_body (relaid w)) (map (relaid_body w) bs) ≡ map (resolved_body w) bs
  pub pass : flat_map body_faults (places_called (relaid w) called (map (relaid_body w) bs)) ≡ []

one_more : (w : Whole) (called : Name → Name) (b : BodyParts) (bs : List BodyParts) → BodyBack w b (called b.name) → AllBack w called bs → AllBack w called (b ∷ bs)
one_more w called b bs one more = record {
  same = λ i. one.same i ∷ more.same i;
  fit = and_from (body_fits (relaid_body w b)) (list_all body_fits (map (relaid_body w) bs)) one.fits more.fit;
  resolve = λ i. one.resolves i ∷ more.resolve i;
  pass = both_pass (body_faults (place (relaid w) (relaid_body w b) (called b.name))) (flat_map body_faults (places_called (relaid w) called (map (relaid_body w) bs))) one.passes more.pass;
}

pub all_back : (w : Whole) (called : Name → Name) (bs : List BodyParts) → list_all body_fits bs ≡ true → flat_map body_faults (places_called w called bs) ≡ [] → AllBack w called bs
all_back w called [] h e = record { same = refl; fit = refl; resolve = refl; pass = refl }
all_back w called (b ∷ bs) h e =
    let p = and_parts (body_fits b) (list_all body_fits bs) h in
    let now = body_faults (place w b (called b.name)) in
    let later = flat_map body_faults (places_called w called bs) in
    one_more w called b bs (body_back w b (called b.name) p.0 (empty_left now later e)) (all_back w called bs p.1 (empty_right now later e))

-- ---- parents and properties

parent_back : (w : Whole) (owner : Name) (o : Option Name) → parent_faults w owner o ≡ [] → option_map (class_name (class_names w)) (parent_in w o) ≡ o
parent_back w owner None e = refl
parent_back w owner (Some name) e = go (class_of w name) refl (passes (is_some (class_of w name)) reasons.UnknownName owner name 0 e)
  where
    go : (o : Option ℕ) → class_of w name ≡ o → is_some o ≡ true → option_map (class_name (class_names w)) o ≡ Some name
    go None f t = absurd (cc)
    go (Some n) f t = ap Some (ap named (name_at_place (class_names w) name n f))

property_back : (w : Whole) (owner : Name) (p : PropertyParts) → property_fits p ≡ true → stated_faults w owner p.stated ≡ [] → canonical_property (class_names w) (resolved_property w p) ≡ p
property_back w owner p h e =
    let a = and_parts (is_word p.name) (initial_fits p.initial && where_there type_fits p.stated) h in
    let b = and_parts (initial_fits p.initial) (where_there type_fits p.stated) a.1 in
    λ i. record { name = p.name; initial = p.initial; stated = stated_back w owner p.stated b.1 e i }

properties_back : (w : Whole) (owner : Name) (before : List Name) (ps : List PropertyParts) → list_all property_fits ps ≡ true → property_checks w owner before ps ≡ []
    → map (canonical_property (class_names w)) (map (resolved_property w) ps) ≡ ps
properties_back w owner before [] h e = refl
properties_back w owner before (p ∷ ps) h e =
    let a = and_parts (property_fits p) (list_all property_fits ps) h in
    let apart = check (not (names before p.name)) reasons.DuplicateProperty owner p.name 0 in
    let stated = stated_faults w owner p.stated in
    let later = property_checks w owner (before ++ p.name ∷ []) ps in
    let rest = empty_right apart (stated ++ later) e in
    ap₂ (λ (x : PropertyParts) (xs : List PropertyParts). x ∷ xs) (property_back w owner p a.0 (empty_left stated later rest))
    (properties_back w owner (before ++ p.name ∷ []) ps a.1 (empty_right stated later rest))

-- ---- a class

no_parent_fault : (w : Whole) (n : ℕ) (c : ClassParts) → class_checks w n c ≡ [] → parent_faults w c.name c.parent ≡ []
no_parent_fault w n c e =
    let apart = check (not (names (take n (class_names w)) c.name)) reasons.DuplicateName c.name c.name 0 in
    let cycle = check (not (has n (ancestors w n))) reasons.ClassCycle c.name c.name 0 in
    let deep = check (nat_le (different (chain (parents w) n)) 64) reasons.ClassTooDeep c.name c.name 0 in
    empty_left (parent_faults w c.name c.parent) (cycle ++ deep) (empty_right apart (parent_faults w c.name c.parent ++ (cycle ++ deep)) e)

no_property_fault : (w : Whole) (n : ℕ) (c : ClassParts) → member_checks w n c ≡ [] → property_checks w c.name (along (properties w) (ancestors w n)) c.props ≡ []
no_property_fault w n c e =
    let consts = differ_from reasons.DuplicateName c.name as_it_is [] (map (λ (k : Const). k.name) c.consts) in
    let props = property_checks w c.name (along (properties w) (ancestors w n)) c.props in
    let methods = differ_from reasons.DuplicateName c.name as_it_is [] (map (λ (b : BodyParts). b.name) c.methods) in
    empty_left props methods (empty_right consts (props ++ methods) e)

pub record ClassBack (w : Whole) (c : ClassParts) : Type 0 where
  pub same : canonical_class (class_names w) (resolved_class w c) ≡ relaid_class w c
  pub fits : class_fits (relaid_class w c) ≡ true
  pub resolves : resolved_class (relaid w) (relaid_class w c) ≡ resolved_class w c
  pub pass : flat_map body_faults (method_places (relaid w) (relaid_class w c)) ≡ []

class_back : (w : Whole) (n : ℕ) (c : ClassParts) → class_fits c ≡ true → class_checks w n c ≡ [] → member_checks w n c ≡ [] → flat_map body_faults (method_places w c) ≡ [] → ClassBack w c
class_back w n c h e m p =
    let f = class_facts c h in
    let bodies = all_back w (of_class c) c.methods f.methods p in
    record {
      same = λ i. record {
        name = c.name;
        parent = parent_back w c.name c.parent (no_parent_fault w n c e) i;
        consts = c.consts;
        props = properties_back w c.name (along (properties w) (ancestors w n)) c.props f.props (no_property_fault w n c m) i;
        methods = bodies.same i;
      };
      fits = class_from (relaid_class w c) (record { name = f.name; parent = f.parent; consts = f.consts; props = f.props; methods = bodies.fit });
      resolves = λ i. record {
        name = c.name;
        parent = parent_same w (relaid w) (relaid_alike w) c.parent i;
        consts = c.consts;
        props = map (λ (p : PropertyParts). record { name = p.name; initial = p.initial; stated = option_map (λ (t : TypeParts). type_same w (relaid w) (relaid_alike w) t i) p.stated }) c.props;
        methods = bodies.resolve i;
      };
      pass = bodies.pass;
    }

-- ---- classes

pub record ClassesBack (w : Whole) (cs : List ClassParts) : Type 0 where
  pub same : map (canonical_class (class_names w)) (map (resolved_class w) cs) ≡ map (relaid_class w) cs
  pub fit : list_all class_fits (map (relaid_class w) cs) ≡ true
  pub resolve : map (resolved_class (relaid w)) (map (relaid_class w) cs) ≡ map (resolved_class w) cs
  pub pass : flat_map body_faults (flat_map (method_places (relaid w)) (map (relaid_class w) cs)) ≡ []

one_class_more : (w : Whole) (c : ClassParts) (cs : List ClassParts) → ClassBack w c → ClassesBack w cs → ClassesBack w (c ∷ cs)
one_class_more w c cs one more =
    let now = method_places (relaid w) (relaid_class w c) in
    let later = flat_map (method_places (relaid w)) (map (relaid_class w) cs) in
    record {
      same = λ i. one.same i ∷ more.same i;
      fit = and_from (class_fits (relaid_class w c)) (list_all class_fits (map (relaid_class w) cs)) one.fits more.fit;
      resolve = λ i. one.resolves i ∷ more.resolve i;
      pass = flat_map-append body_faults now later ∙ both_pass (flat_map body_faults now) (flat_map body_faults later) one.pass more.pass;
    }

pub classes_back : (w : Whole) (n : ℕ) (cs : List ClassParts) → list_all class_fits cs ≡ true → each_class (class_checks w) n cs ≡ [] → each_class (member_checks w) n cs ≡ []
    → flat_map body_faults (flat_map (method_places w) cs) ≡ [] → ClassesBack w cs
classes_back w n [] h e m p = record { same = refl; fit = refl; resolve = refl; pass = refl }
classes_back w n (c ∷ cs) h e m p =
    let a = and_parts (class_fits c) (list_all class_fits cs) h in
    let now = flat_map body_faults (method_places w c) in
    let later = flat_map body_faults (flat_map (method_places w) cs) in
    let split = sym (flat_map-append body_faults (method_places w c) (flat_map (method_places w) cs)) ∙ p in
    one_class_more w c cs
    (class_back w n c a.0 (empty_left (class_checks w n c) (each_class (class_checks w) (suc n) cs) e) (empty_left (member_checks w n c) (each_class (member_checks w) (suc n) cs) m) (empty_left now later split))
    (classes_back w (suc n) cs a.1 (empty_right (class_checks w n c) (each_class (class_checks w) (suc n) cs) e) (empty_right (member_checks w n c) (each_class (member_checks w) (suc n) cs) m) (empty_right now later split))
