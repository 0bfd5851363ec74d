-- What parts that fit and pass the checks of linking link to links back: its canonical parts fit and link to it.
use Rattle.std.proofs.Common.{◌≡◌, ℕ, suc, true, not, nat_le, List, [], ◌∷◌, ◌++◌, map, flat_map, take, length, codes, refl, sym, ap, ap₂, subst, ◌∙◌}
use Rattle.std.specs.Prelude.{◌+◌}
use Rattle.std.specs.List.{list_all}
use Rattle.std.proofs.lemmas.Bool.{and_from, and_parts}
use Rattle.std.proofs.lemmas.Grind.{flat_map-append}
use Rattle.std.proofs.lemmas.List.{length-map}
use Rattle.std.proofs.lemmas.Simd.{map-map}
use Rattle.type_lattice.specs.Classes.{Tree, parent_of, chain, has}
use Rattle.hhbc_repo.specs.declared.link_fault.LinkFault.{LinkFault}
use Rattle.hhbc_repo.specs.declared.link_fault.LinkKind.TheVariants as reasons
use Rattle.hhbc_repo.specs.declared.parts.BodyParts.{BodyParts}
use Rattle.hhbc_repo.specs.declared.parts.ClassParts.{ClassParts}
use Rattle.hhbc_repo.specs.declared.repo.Const.{Const}
use Rattle.hhbc_repo.specs.Canonical.{canonical_body, canonical_class, canonical}
use Rattle.hhbc_repo.specs.Fits.{body_fits, class_fits, parts_fit}
use Rattle.hhbc_repo.specs.LinkFaults.{Name, Whole, names, as_it_is, check, within, class_names, above, ancestors, different, properties, along, differ_from, body_faults, function_places, method_places, places, count_faults, repeated_functions, class_checks, property_checks, member_checks, each_class, first_class, faults}
use Rattle.hhbc_repo.specs.Resolved.{resolved_body, resolved_class, resolved, LinksTo}
use Rattle.hhbc_repo.proofs.AlikeWholes.{parent_faults_same, property_checks_same}
use Rattle.hhbc_repo.proofs.BodyCounts.{places_start, methods_next}
use Rattle.hhbc_repo.proofs.ClassesBack.{AllBack, all_back, ClassesBack, classes_back}
use Rattle.hhbc_repo.proofs.NoFaults.{NoneFails, none_fails}
use Rattle.hhbc_repo.proofs.Checking.{both_pass}
use Rattle.hhbc_repo.proofs.RelaidWholes.{relaid_body, relaid_class, relaid, relaid_alike}
use Rattle.hhbc_repo.proofs.SoundLinks.{linked_class_names}

-- ---- checks that name no position

functions_same : (w : Whole) (before : List Name) (bs : List BodyParts) → repeated_functions before (map (relaid_body w) bs) ≡ repeated_functions before bs
functions_same w before [] = refl
functions_same w before (b ∷ bs) =
    ap (λ (l : List LinkFault). check (not (names before b.name)) reasons.DuplicateName b.name b.name 0 ++ l) (functions_same w (before ++ b.name ∷ []) bs)

class_checks_same : (w : Whole) (n : ℕ) (c : ClassParts) → class_checks (relaid w) n (relaid_class w c) ≡ class_checks w n c
class_checks_same w n c =
    let alike = relaid_alike w in
    λ i. check (not (names (take n (alike.names_same i)) c.name)) reasons.DuplicateName c.name c.name 0
    ++ (parent_faults_same w (relaid w) alike c.name c.parent i
    ++ (check (not (has n (above (alike.tree_same i) (parent_of (alike.tree_same i) n)))) reasons.ClassCycle c.name c.name 0
    ++ check (nat_le (different (chain (alike.tree_same i) n)) 64) reasons.ClassTooDeep c.name c.name 0))

ancestors_same : (w : Whole) (n : ℕ) → along (properties (relaid w)) (ancestors (relaid w) n) ≡ along (properties w) (ancestors w n)
ancestors_same w n =
    let alike = relaid_alike w in
    ap₂ (λ (t : List (List Name)) (r : Tree). along t (above r (parent_of r n))) alike.properties_same alike.tree_same

member_checks_same : (w : Whole) (n : ℕ) (c : ClassParts) → member_checks (relaid w) n (relaid_class w c) ≡ member_checks w n c
member_checks_same w n c =
    let consts = differ_from reasons.DuplicateName c.name as_it_is [] (map (λ (k : Const). k.name) c.consts) in
    ap₂ (λ (props : List LinkFault) (ms : List Name). consts ++ (props ++ differ_from reasons.DuplicateName c.name as_it_is [] ms))
    (property_checks_same w (relaid w) (relaid_alike w) c.name (along (properties (relaid w)) (ancestors (relaid w) n)) c.props
    ∙ ap (λ (before : List Name). property_checks w c.name before c.props) (ancestors_same w n))
    (map-map (λ (b : BodyParts). b.name) (relaid_body w) c.methods)

each_class_same : (f g : ℕ → ClassParts → List LinkFault) (h : ClassParts → ClassParts) → ((n : ℕ) (c : ClassParts) → f n (h c) ≡ g n c) → (n : ℕ) (cs : List ClassParts) → each_class f n (map h cs) ≡ each_class g n cs
each_class_same f g h same n [] = refl
each_class_same f g h same n (c ∷ cs) = ap₂ (λ (x y : List LinkFault). x ++ y) (same n c) (each_class_same f g h same (suc n) cs)

method_count_same : (w : Whole) (cs : List ClassParts) → length (flat_map (method_places (relaid w)) (map (relaid_class w) cs)) ≡ length (flat_map (method_places w) cs)
method_count_same w [] = refl
method_count_same w (c ∷ cs) =
    methods_next (relaid w) (relaid_class w c) (map (relaid_class w) cs)
    ∙ ap₂ (λ (m n : ℕ). m + n) (length-map c.methods (relaid_body w)) (method_count_same w cs)
    ∙ sym (methods_next w c cs)

body_count_same : (w : Whole) → length (places (relaid w)) ≡ length (places w)
body_count_same w =
    places_start (relaid w)
    ∙ ap₂ (λ (m n : ℕ). m + n) (length-map w.functions (relaid_body w)) (method_count_same w w.classes)
    ∙ sym (places_start w)

counts_same : (w : Whole) → count_faults (relaid w) ≡ count_faults w
counts_same w =
    ap₂ (λ (m n : ℕ). within 65535 m [] (codes "functions") ++ within 16384 n [] (codes "classes")) (body_count_same w) (length-map w.classes (relaid_class w))

-- ---- all of it

passes_with : (w : Whole) → NoneFails w → faults w ≡ []
passes_with w p =
    let functions = repeated_functions [] w.functions in
    let classes = each_class (class_checks w) first_class w.classes in
    let members = each_class (member_checks w) first_class w.classes in
    let rest = flat_map body_faults (places w) in
    let bodies = flat_map body_faults (function_places w) in
    let methods = flat_map body_faults (flat_map (method_places w) w.classes) in
    both_pass (count_faults w) (functions ++ (classes ++ (members ++ rest))) p.counts
    (both_pass functions (classes ++ (members ++ rest)) p.functions
    (both_pass classes (members ++ rest) p.classes
    (both_pass members rest p.members (flat_map-append body_faults (function_places w) (flat_map (method_places w) w.classes) ∙ both_pass bodies methods p.bodies p.methods))))

-- canonical parts, given the names of all classes
abbrev canonical_with : List Name → Whole → Whole
canonical_with all w = record { functions = map (canonical_body all) (map (resolved_body w) w.functions); classes = map (canonical_class all) (map (resolved_class w) w.classes) }

abbrev pub BackAs : Whole → Whole → Type 0
BackAs w v = (parts_fit v.functions v.classes ≡ true) × LinksTo v (resolved w)

back_from : (w : Whole) → NoneFails w → AllBack w as_it_is w.functions → ClassesBack w w.classes → BackAs w (canonical (resolved w))
back_from w p fs cs =
    let functions : map (canonical_body (class_names w)) (map (resolved_body w) w.functions) ≡ map (relaid_body w) w.functions = fs.same in
    let classes : map (canonical_class (class_names w)) (map (resolved_class w) w.classes) ≡ map (relaid_class w) w.classes = cs.same in
    let named : canonical (resolved w) ≡ canonical_with (class_names w) w = ap (λ (l : List Name). canonical_with l w) (linked_class_names w) in
    let laid : canonical_with (class_names w) w ≡ relaid w = λ i. record { functions = functions i; classes = classes i } in
    let resolves : resolved (relaid w) ≡ resolved w = λ i. record { functions = fs.resolve i; classes = cs.resolve i } in
    let fit : parts_fit (relaid w).functions (relaid w).classes ≡ true = and_from (list_all body_fits (relaid w).functions) (list_all class_fits (relaid w).classes) fs.fit cs.fit in
    let none : faults (relaid w) ≡ [] = passes_with (relaid w) (record {
      counts = counts_same w ∙ p.counts;
      functions = functions_same w [] w.functions ∙ p.functions;
      classes = each_class_same (class_checks (relaid w)) (class_checks w) (relaid_class w) (class_checks_same w) first_class w.classes ∙ p.classes;
      members = each_class_same (member_checks (relaid w)) (member_checks w) (relaid_class w) (member_checks_same w) first_class w.classes ∙ p.members;
      bodies = fs.pass;
      methods = cs.pass;
    }) in
    subst (BackAs w) (sym (named ∙ laid)) (fit, record { sound = none; is = sym resolves })

pub linked_back : (w : Whole) → parts_fit w.functions w.classes ≡ true → faults w ≡ []
    → (parts_fit (canonical (resolved w)).functions (canonical (resolved w)).classes ≡ true) × LinksTo (canonical (resolved w)) (resolved w)
linked_back w h e =
    let a = and_parts (list_all body_fits w.functions) (list_all class_fits w.classes) h in
    let p = none_fails w e in
    back_from w p (all_back w as_it_is w.functions a.0 p.bodies) (classes_back w first_class w.classes a.1 p.classes p.members p.methods)
