-- What parts link to is sound where no check fails.
use Rattle.std.proofs.Common.{◌≡◌, ◌≤◌, ◌<◌, ◌+◌, ◌^◌, ℕ, suc, true, List, [], ◌∷◌, ◌++◌, length, map, flat_map, refl, sym, ap, ap₂, ◌∙◌, subst, arith, codes}
use Rattle.std.specs.List.{list_all}
use Rattle.std.proofs.lemmas.Bool.{and_from, le-leb}
use Rattle.std.proofs.lemmas.List.{append-nil, length-append, length-map}
use Rattle.std.proofs.lemmas.Simd.{map-map}
use Rattle.type_lattice.specs.Classes.{Tree, Forest}
use Rattle.hhbc_repo.specs.declared.link_fault.LinkKind.TheVariants as kinds
use Rattle.hhbc_repo.specs.declared.parts.BodyParts.{BodyParts}
use Rattle.hhbc_repo.specs.declared.parts.ClassParts.{ClassParts}
use Rattle.hhbc_repo.specs.declared.parts.PropertyParts.{PropertyParts}
use Rattle.hhbc_repo.specs.declared.repo.Const.{Const}
use Rattle.hhbc_repo.specs.declared.repo.Class.{Class}
use Rattle.hhbc_repo.specs.declared.repo.Property.{Property}
use Rattle.hhbc_repo.specs.declared.body.Body.{Body}
use Rattle.hhbc_repo.specs.Names.{distinct, distinct_from}
use Rattle.hhbc_repo.specs.Bodies.{built_in_names, built_in_tree, tree_of, bodies}
use Rattle.hhbc_repo.specs.Bodies as linked
use Rattle.hhbc_repo.specs.LinkFaults.{Name, Whole, Place, class_names, parents, ancestors, properties, along, as_it_is, places, function_places, method_places, within, differ_from, count_faults, each_class, property_checks, member_checks, body_faults, first_class, faults}
use Rattle.hhbc_repo.specs.LinkFaults as checks
use Rattle.hhbc_repo.specs.LookUps.{Sound, function_names, method_names, property_names, all_properties, methods_in, total}
use Rattle.hhbc_repo.specs.Resolved.{resolved, resolved_class, resolved_body, resolved_property}
use Rattle.hhbc_repo.proofs.DeclaredTree.{class_names_length, parents_forest}
use Rattle.hhbc_repo.specs.Lengths.{parts_fewer}
use Rattle.hhbc_repo.specs.Ranges.{few_iterators}
use Rattle.hhbc_repo.proofs.BodiesPass.{all_pass, any_body, any_method}
use Rattle.hhbc_repo.proofs.LinkedLengths.{lists_kept}
use Rattle.hhbc_repo.proofs.WithinLimits.{limits_hold}
use Rattle.hhbc_repo.proofs.NoFaults.{empty_left, empty_right, fits_within, distinct_fewer, differ, functions_differ, properties_differ, classes_differ, faultless, passed}

-- ---- what is linked has the names and parents of its parts

body_names : (w : Whole) (bs : List BodyParts) → function_names (map (resolved_body w) bs) ≡ map (λ (b : BodyParts). b.name) bs
body_names w bs = map-map (λ (b : Body). b.name) (resolved_body w) bs

property_names_of : (w : Whole) (ps : List PropertyParts) → map (λ (p : Property). p.name) (map (resolved_property w) ps) ≡ map (λ (p : PropertyParts). p.name) ps
property_names_of w ps = map-map (λ (p : Property). p.name) (resolved_property w) ps

pub linked_class_names : (w : Whole) → linked.class_names (resolved w) ≡ class_names w
linked_class_names w = ap (λ (l : List Name). built_in_names ++ l) (map-map (λ (c : Class). c.name) (resolved_class w) w.classes)

pub linked_tree : (w : Whole) → tree_of (resolved w) ≡ parents w
linked_tree w = ap (λ (t : Tree). built_in_tree ++ t) (map-map (λ (c : Class). c.parent) (resolved_class w) w.classes)

linked_property_names : (w : Whole) (cs : List ClassParts) → property_names (map (resolved_class w) cs) ≡ map checks.property_names cs
linked_property_names w [] = refl
linked_property_names w (c ∷ cs) = ap₂ (λ (x : List Name) (xs : List (List Name)). x ∷ xs) (property_names_of w c.props) (linked_property_names w cs)

pub linked_properties : (w : Whole) → all_properties (resolved w) ≡ properties w
linked_properties w = ap (λ (l : List (List Name)). ((codes "message" ∷ []) ∷ [] ∷ [] ∷ [] ∷ [] ∷ [] ∷ []) ++ l) (linked_property_names w w.classes)

method_count : (w : Whole) (cs : List ClassParts) → length (methods_in (map (resolved_class w) cs)) ≡ length (flat_map (method_places w) cs)
method_count w [] = refl
method_count w (c ∷ cs) =
    let a = length-append (map (resolved_body w) c.methods) (methods_in (map (resolved_class w) cs)) in
    let b = length-append (method_places w c) (flat_map (method_places w) cs) in
    let l = length-map c.methods (resolved_body w) in
    let m = length-map {B = Place} c.methods (λ (b : BodyParts). record { whole = w; body = b; owner = c.name ++ (codes "::" ++ b.name) }) in
    let i = method_count w cs in
    omega (arith, a, b, l, m, i)

pub linked_bodies : (w : Whole) → length (bodies (resolved w)) ≡ length (places w)
linked_bodies w =
    let a = length-append (map (resolved_body w) w.functions) (methods_in (map (resolved_class w) w.classes)) in
    let b = length-append (function_places w) (flat_map (method_places w) w.classes) in
    let l = length-map w.functions (resolved_body w) in
    let m = length-map {B = Place} w.functions (λ (b : BodyParts). record { whole = w; body = b; owner = b.name }) in
    let i = method_count w w.classes in
    omega (arith, a, b, l, m, i)

-- ---- members of each class

methods_apart : (w : Whole) (n : ℕ) (c : ClassParts) → member_checks w n c ≡ [] → distinct (map (λ (b : BodyParts). b.name) c.methods) ≡ true
methods_apart w n c h =
    let consts = differ_from kinds.DuplicateName c.name as_it_is [] (map (λ (k : Const). k.name) c.consts) in
    let props = property_checks w c.name (along (properties w) (ancestors w n)) c.props in
    let methods = differ_from kinds.DuplicateName c.name as_it_is [] (map (λ (b : BodyParts). b.name) c.methods) in
    differ kinds.DuplicateName c.name as_it_is [] (map (λ (b : BodyParts). b.name) c.methods) (empty_right props methods (empty_right consts (props ++ methods) h))

properties_apart : (w : Whole) (n : ℕ) (c : ClassParts) → member_checks w n c ≡ [] → distinct (map (λ (p : PropertyParts). p.name) c.props) ≡ true
properties_apart w n c h =
    let consts = differ_from kinds.DuplicateName c.name as_it_is [] (map (λ (k : Const). k.name) c.consts) in
    let inherited = along (properties w) (ancestors w n) in
    let props = property_checks w c.name inherited c.props in
    let methods = differ_from kinds.DuplicateName c.name as_it_is [] (map (λ (b : BodyParts). b.name) c.methods) in
    let apart = properties_differ w c.name inherited c.props (empty_left props methods (empty_right consts (props ++ methods) h)) in
    distinct_fewer inherited [] (map (λ (p : PropertyParts). p.name) c.props)
    (subst (λ (l : List Name). distinct_from l (map (λ (p : PropertyParts). p.name) c.props) ≡ true) (sym (append-nil inherited)) apart)

all_methods_apart : (w : Whole) (n : ℕ) (cs : List ClassParts) → each_class (member_checks w) n cs ≡ [] → list_all distinct (method_names (map (resolved_class w) cs)) ≡ true
all_methods_apart w n [] h = refl
all_methods_apart w n (c ∷ cs) h =
    let now = member_checks w n c in
    let more = each_class (member_checks w) (suc n) cs in
    and_from (distinct (function_names (map (resolved_body w) c.methods))) (list_all distinct (method_names (map (resolved_class w) cs)))
    (ap distinct (body_names w c.methods) ∙ methods_apart w n c (empty_left now more h))
    (all_methods_apart w (suc n) cs (empty_right now more h))

all_properties_apart : (w : Whole) (n : ℕ) (cs : List ClassParts) → each_class (member_checks w) n cs ≡ [] → list_all distinct (property_names (map (resolved_class w) cs)) ≡ true
all_properties_apart w n [] h = refl
all_properties_apart w n (c ∷ cs) h =
    let now = member_checks w n c in
    let more = each_class (member_checks w) (suc n) cs in
    and_from (distinct (map (λ (p : Property). p.name) (map (resolved_property w) c.props))) (list_all distinct (property_names (map (resolved_class w) cs)))
    (ap distinct (property_names_of w c.props) ∙ properties_apart w n c (empty_left now more h))
    (all_properties_apart w (suc n) cs (empty_right now more h))

-- ---- all of it

few_bodies : (w : Whole) → count_faults w ≡ [] → length (places w) ≤ 65535
few_bodies w h = fits_within 65535 (length (places w)) [] (codes "functions") (empty_left (within 65535 (length (places w)) [] (codes "functions")) (within 16384 (length w.classes) [] (codes "classes")) h)

few_classes : (w : Whole) → count_faults w ≡ [] → length w.classes ≤ 16384
few_classes w h = fits_within 16384 (length w.classes) [] (codes "classes") (empty_right (within 65535 (length (places w)) [] (codes "functions")) (within 16384 (length w.classes) [] (codes "classes")) h)

-- no body has more iterators than it may
iterators_fit : (w : Whole) (b : BodyParts) (owner : Name) → body_faults (record { whole = w; body = b; owner = owner }) ≡ [] → few_iterators (resolved_body w b) ≡ true
iterators_fit w b owner h =
    let p : Place = record { whole = w; body = b; owner = owner } in
    le-leb b.iters 32 (limits_hold p (faultless p h).limits).iters

pub sound_links : (w : Whole) → total (properties w) + 1 < 2 ^ 32 → parts_fewer (2 ^ 32) w ≡ true → faults w ≡ [] → Sound (resolved w)
sound_links w few lists h =
    let p = passed w h in
    record {
      functions = ap distinct (body_names w w.functions) ∙ functions_differ [] w.functions p.functions;
      names = ap distinct (linked_class_names w) ∙ classes_differ w built_in_names w.classes refl p.classes;
      methods = all_methods_apart w first_class w.classes p.members;
      properties = all_properties_apart w first_class w.classes p.members;
      forest = subst Forest (sym (linked_tree w)) (parents_forest w p.classes);
      body_count = let l = linked_bodies w in let b = few_bodies w p.counts in omega (arith, l, b);
      class_count = let e = ap length (linked_class_names w) in let l = class_names_length w in let b = few_classes w p.counts in omega (arith, e, l, b);
      property_count = subst (λ (t : List (List Name)). total t + 1 < 2 ^ 32) (sym (linked_properties w)) few;
      lists = lists_kept (2 ^ 32) w (omega arith) lists h;
      iterators = all_pass w (λ (b : BodyParts). true) few_iterators (λ b owner f h. iterators_fit w b owner h) (any_body w.functions) (any_method w.classes) p.bodies;
    }
