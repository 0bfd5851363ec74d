-- What a list of checks says where none of them fails.
use Rattle.std.proofs.Common.{◌≡◌, ◌≤◌, ℕ, zero, suc, ◌+◌, Bool, true, false, ◌||◌, not, List, [], ◌∷◌, ◌++◌, Option, Some, None, is_some, slice_get, length, nat_le, refl, sym, ap, ◌∙◌, subst, arith, append_assoc, map, flat_map, take}
use Rattle.std.proofs.lemmas.Bool.{leb-true, and_from, and_parts, not-true}
use Rattle.std.proofs.lemmas.Grind.{flat_map-append}
use Rattle.std.proofs.lemmas.List.{length-append}
use Rattle.std.proofs.lemmas.List.Folds.{list_any-append}
use Rattle.std.proofs.Math.Seq.{take-append_seam}
use Rattle.type_lattice.specs.Classes.{chain, has}
use Rattle.hhbc_repo.specs.declared.link_fault.LinkFault.{LinkFault}
use Rattle.hhbc_repo.specs.declared.link_fault.LinkKind.{LinkKind}
use Rattle.hhbc_repo.specs.declared.link_fault.LinkKind.TheVariants as kinds
use Rattle.hhbc_repo.specs.declared.parts.BodyParts.{BodyParts}
use Rattle.hhbc_repo.specs.declared.parts.ClassParts.{ClassParts}
use Rattle.hhbc_repo.specs.declared.parts.PropertyParts.{PropertyParts}
use Rattle.hhbc_repo.specs.Names.{distinct_from}
use Rattle.hhbc_repo.specs.LinkFaults.{Name, Whole, Place, is_name, names, check, within, differ_from, class_names, parents, parent_faults, ancestors, different, stated_faults, constant_faults, method_faults, repeated_functions, class_checks, property_checks, each_class, body_faults, function_places, method_places, places, count_faults, member_checks, first_class, faults, as_it_is, dollar, locals_of, labels_of, positions_of, limit_faults, position_faults}

pub empty_left : {A : Type 0} (xs ys : List A) → xs ++ ys ≡ [] → xs ≡ []
empty_left [] ys h = refl
empty_left (x ∷ xs) ys h = absurd (cc)

pub empty_right : {A : Type 0} (xs ys : List A) → xs ++ ys ≡ [] → ys ≡ []
empty_right [] ys h = h
empty_right (x ∷ xs) ys h = absurd (cc)

pub passes : (b : Bool) (kind : LinkKind) (owner name : Name) (found : ℕ) → check b kind owner name found ≡ [] → b ≡ true
passes true kind owner name found h = refl
passes false kind owner name found h = absurd (cc)

pub fits_within : (limit count : ℕ) (owner name : Name) → within limit count owner name ≡ [] → count ≤ limit
fits_within limit count owner name h = leb-true count limit (passes (nat_le count limit) kinds.OverLimit owner name count h)

-- the class of a constant or a method that passes is there
pub constant_class : (p : Place) (name class : Name) (o : Option ℕ) → constant_faults p name class o ≡ [] → is_some o ≡ true
constant_class p name class None e = absurd (cc)
constant_class p name class (Some c) e = refl

pub method_class : (p : Place) (name class : Name) (n : ℕ) (o : Option ℕ) → method_faults p name class n o ≡ [] → is_some o ≡ true
method_class p name class n None e = absurd (cc)
method_class p name class n (Some c) e = refl

-- names apart from these and those before are apart from these
or_right : (a b : Bool) → not (a || b) ≡ true → not b ≡ true
or_right true b h = absurd (cc)
or_right false b h = h

pub distinct_fewer : (first before more : List Name) → distinct_from (first ++ before) more ≡ true → distinct_from before more ≡ true
distinct_fewer first before [] h = refl
distinct_fewer first before (n ∷ ns) h =
    let both = and_parts (not (names (first ++ before) n)) (distinct_from ((first ++ before) ++ n ∷ []) ns) h in
    let here = or_right (names first n) (names before n) (subst (λ (b : Bool). not b ≡ true) (list_any-append (is_name n) first before) both.0) in
    let later = distinct_fewer first (before ++ n ∷ []) ns (subst (λ (l : List Name). distinct_from l ns ≡ true) (append_assoc first before (n ∷ [])) both.1) in
    and_from (not (names before n)) (distinct_from (before ++ n ∷ []) ns) here later

pub differ : (kind : LinkKind) (owner : Name) (spelled : Name → Name) (before all : List Name) → differ_from kind owner spelled before all ≡ [] → distinct_from before all ≡ true
differ kind owner spelled before [] h = refl
differ kind owner spelled before (n ∷ ns) h =
    let here = check (not (names before n)) kind owner (spelled n) 0 in
    let more = differ_from kind owner spelled (before ++ n ∷ []) ns in
    and_from (not (names before n)) (distinct_from (before ++ n ∷ []) ns)
    (passes (not (names before n)) kind owner (spelled n) 0 (empty_left here more h))
    (differ kind owner spelled (before ++ n ∷ []) ns (empty_right here more h))

pub functions_differ : (before : List Name) (bs : List BodyParts) → repeated_functions before bs ≡ [] → distinct_from before (map (λ (b : BodyParts). b.name) bs) ≡ true
functions_differ before [] h = refl
functions_differ before (b ∷ bs) h =
    let here = check (not (names before b.name)) kinds.DuplicateName b.name b.name 0 in
    let more = repeated_functions (before ++ b.name ∷ []) bs in
    and_from (not (names before b.name)) (distinct_from (before ++ b.name ∷ []) (map (λ (b : BodyParts). b.name) bs))
    (passes (not (names before b.name)) kinds.DuplicateName b.name b.name 0 (empty_left here more h))
    (functions_differ (before ++ b.name ∷ []) bs (empty_right here more h))

pub properties_differ : (w : Whole) (owner : Name) (before : List Name) (ps : List PropertyParts) → property_checks w owner before ps ≡ [] → distinct_from before (map (λ (p : PropertyParts). p.name) ps) ≡ true
properties_differ w owner before [] h = refl
properties_differ w owner before (p ∷ ps) h =
    let here = check (not (names before p.name)) kinds.DuplicateProperty owner p.name 0 in
    let more = property_checks w owner (before ++ p.name ∷ []) ps in
    and_from (not (names before p.name)) (distinct_from (before ++ p.name ∷ []) (map (λ (p : PropertyParts). p.name) ps))
    (passes (not (names before p.name)) kinds.DuplicateProperty owner p.name 0 (empty_left here (stated_faults w owner p.stated ++ more) h))
    (properties_differ w owner (before ++ p.name ∷ []) ps (empty_right (stated_faults w owner p.stated) more (empty_right here (stated_faults w owner p.stated ++ more) h)))

-- the class at a place has no fault
pub class_at_place : (f : ℕ → ClassParts → List LinkFault) (n : ℕ) (cs : List ClassParts) (i : ℕ) (c : ClassParts) → each_class f n cs ≡ [] → slice_get cs i ≡ Some c → f (n + i) c ≡ []
class_at_place f n [] i c h e = absurd (cc)
class_at_place f n (d ∷ ds) zero c h e =
    let same : d ≡ c = cc in
    let k : n ≡ n + 0 = omega arith in
    subst (λ (m : ℕ). f m c ≡ []) k (subst (λ (x : ClassParts). f n x ≡ []) same (empty_left (f n d) (each_class f (suc n) ds) h))
class_at_place f n (d ∷ ds) (suc i) c h e =
    let k : suc n + i ≡ n + suc i = omega arith in
    subst (λ (m : ℕ). f m c ≡ []) k (class_at_place f (suc n) ds i c (empty_right (f n d) (each_class f (suc n) ds) h) e)

-- what a class without a fault is like
pub record Passes (w : Whole) (n : ℕ) (c : ClassParts) : Type 0 where
  pub named : not (names (take n (class_names w)) c.name) ≡ true
  pub acyclic : has n (ancestors w n) ≡ false

pub class_passes : (w : Whole) (n : ℕ) (c : ClassParts) → class_checks w n c ≡ [] → Passes w n c
class_passes w n c h = record {
  named = passes (not (names (take n (class_names w)) c.name)) kinds.DuplicateName c.name c.name 0 (empty_left name (parent ++ (cycle ++ deep)) h);
  acyclic = not-true (has n (ancestors w n)) (passes (not (has n (ancestors w n))) kinds.ClassCycle c.name c.name 0
      (empty_left cycle deep (empty_right parent (cycle ++ deep) (empty_right name (parent ++ (cycle ++ deep)) h))));
}
  where
    name : List LinkFault
    name = check (not (names (take n (class_names w)) c.name)) kinds.DuplicateName c.name c.name 0

    parent : List LinkFault
    parent = parent_faults w c.name c.parent

    cycle : List LinkFault
    cycle = check (not (has n (ancestors w n))) kinds.ClassCycle c.name c.name 0

    deep : List LinkFault
    deep = check (nat_le (different (chain (parents w) n)) 64) kinds.ClassTooDeep c.name c.name 0

-- the names of classes differ from those of the classes before them
pub classes_differ : (w : Whole) (before : List Name) (cs : List ClassParts) → before ++ map (λ (c : ClassParts). c.name) cs ≡ class_names w
    → each_class (class_checks w) (length before) cs ≡ [] → distinct_from before (map (λ (c : ClassParts). c.name) cs) ≡ true
classes_differ w before [] all h = refl
classes_differ w before (c ∷ cs) all h =
    let more = map (λ (c : ClassParts). c.name) cs in
    let n = length before in
    let front : take n (class_names w) ≡ before = ap (take n) (sym all) ∙ take-append_seam before (c.name ∷ more) in
    let now : class_checks w n c ≡ [] = empty_left (class_checks w n c) (each_class (class_checks w) (suc n) cs) h in
    let here : not (names (take n (class_names w)) c.name) ≡ true = (class_passes w n c now).named in
    let longer : suc n ≡ length (before ++ c.name ∷ []) = let k = length-append before (c.name ∷ []) in omega (arith, k) in
    let rest : each_class (class_checks w) (length (before ++ c.name ∷ [])) cs ≡ [] =
    subst (λ (m : ℕ). each_class (class_checks w) m cs ≡ []) longer (empty_right (class_checks w n c) (each_class (class_checks w) (suc n) cs) h) in
    and_from (not (names before c.name)) (distinct_from (before ++ c.name ∷ []) more)
    (subst (λ (l : List Name). not (names l c.name) ≡ true) front here)
    (classes_differ w (before ++ c.name ∷ []) cs (append_assoc before (c.name ∷ []) more ∙ all) rest)

-- ---- a body

-- what the checks of a body say where none fails
pub record Faultless (p : Place) : Type 0 where
  pub limits : limit_faults p ≡ []
  pub locals : differ_from kinds.DuplicateName p.owner dollar [] (locals_of p.body) ≡ []
  pub labels : differ_from kinds.DuplicateLabel p.owner as_it_is [] (labels_of p.body) ≡ []
  pub stated : stated_faults p.whole p.owner p.body.stated ≡ []
  pub positions : flat_map (position_faults p) (positions_of p.body) ≡ []

pub faultless : (p : Place) → body_faults p ≡ [] → Faultless p
faultless p e =
    let limits = limit_faults p in
    let locals = differ_from kinds.DuplicateName p.owner dollar [] (locals_of p.body) in
    let labels = differ_from kinds.DuplicateLabel p.owner as_it_is [] (labels_of p.body) in
    let stated = stated_faults p.whole p.owner p.body.stated in
    let each = flat_map (position_faults p) (positions_of p.body) in
    let from_locals = empty_right limits (locals ++ (labels ++ (stated ++ each))) e in
    let from_labels = empty_right locals (labels ++ (stated ++ each)) from_locals in
    let from_stated = empty_right labels (stated ++ each) from_labels in
    record {
      limits = empty_left limits (locals ++ (labels ++ (stated ++ each))) e;
      locals = empty_left locals (labels ++ (stated ++ each)) from_locals;
      labels = empty_left labels (stated ++ each) from_labels;
      stated = empty_left stated each from_stated;
      positions = empty_right stated each from_stated;
    }

-- ---- all of it

-- no list of checks has a fault
pub record Passed (w : Whole) : Type 0 where
  pub counts : count_faults w ≡ []
  pub functions : repeated_functions [] w.functions ≡ []
  pub classes : each_class (class_checks w) first_class w.classes ≡ []
  pub members : each_class (member_checks w) first_class w.classes ≡ []
  pub bodies : flat_map body_faults (places w) ≡ []

pub passed : (w : Whole) → faults w ≡ [] → Passed w
passed w h =
    let functions = repeated_functions [] w.functions in
    let classes = each_class (class_checks w) first_class w.classes in
    let members = each_class (member_checks w) first_class w.classes in
    let rest = flat_map body_faults (places w) in
    let from_functions = empty_right (count_faults w) (functions ++ (classes ++ (members ++ rest))) h in
    let from_classes = empty_right functions (classes ++ (members ++ rest)) from_functions in
    let from_members = empty_right classes (members ++ rest) from_classes in
    record {
      counts = empty_left (count_faults w) (functions ++ (classes ++ (members ++ rest))) h;
      functions = empty_left functions (classes ++ (members ++ rest)) from_functions;
      classes = empty_left classes (members ++ rest) from_classes;
      members = empty_left members rest from_members;
      bodies = empty_right members rest from_members;
    }

-- the same, with functions and methods apart
pub record NoneFails (w : Whole) : Type 0 where
  pub counts : count_faults w ≡ []
  pub functions : repeated_functions [] w.functions ≡ []
  pub classes : each_class (class_checks w) first_class w.classes ≡ []
  pub members : each_class (member_checks w) first_class w.classes ≡ []
  pub bodies : flat_map body_faults (function_places w) ≡ []
  pub methods : flat_map body_faults (flat_map (method_places w) w.classes) ≡ []

pub none_fails : (w : Whole) → faults w ≡ [] → NoneFails w
none_fails w h =
    let p = passed w h in
    let bodies = flat_map body_faults (function_places w) in
    let methods = flat_map body_faults (flat_map (method_places w) w.classes) in
    let parted = sym (flat_map-append body_faults (function_places w) (flat_map (method_places w) w.classes)) ∙ p.bodies in
    record { counts = p.counts; functions = p.functions; classes = p.classes; members = p.members; bodies = empty_left bodies methods parted; methods = empty_right bodies methods parted }
