-- Where assertions and stated types pass the checks of linking, the checks of the parts without them are the same; and where no check
-- fails, they pass.
use Rattle.std.proofs.Common.{◌≡◌, ℕ, suc, ◌+◌, not, List, [], ◌∷◌, ◌++◌, map, flat_map, length, codes, refl, sym, ap, ap₂, ◌∙◌}
use Rattle.std.proofs.lemmas.Grind.{flat_map-append}
use Rattle.std.proofs.lemmas.List.{length-map}
use Rattle.std.proofs.lemmas.Simd.{map-map}
use Rattle.hhbc_ops.specs.declared.op.Op.{Op}
use Rattle.hhbc_ops.specs.declared.op.Op.TheVariants as ops
use Rattle.hhbc_repo.specs.declared.link_fault.LinkFault.{LinkFault}
use Rattle.hhbc_repo.specs.declared.link_fault.LinkKind.TheVariants as reasons
use Rattle.hhbc_repo.specs.declared.parts.ArmParts.{ArmParts}
use Rattle.hhbc_repo.specs.declared.parts.BodyParts.{BodyParts}
use Rattle.hhbc_repo.specs.declared.parts.ClassParts.{ClassParts}
use Rattle.hhbc_repo.specs.declared.parts.CodeParts.{CodeParts}
use Rattle.hhbc_repo.specs.declared.parts.CodeParts.TheVariants as forms
use Rattle.hhbc_repo.specs.declared.parts.ImmParts.{ImmParts}
use Rattle.hhbc_repo.specs.declared.parts.ImmParts.TheVariants as imms
use Rattle.hhbc_repo.specs.declared.parts.PositionParts.{PositionParts}
use Rattle.hhbc_repo.specs.declared.parts.PropertyParts.{PropertyParts}
use Rattle.hhbc_repo.specs.declared.repo.Const.{Const}
use Rattle.hhbc_repo.specs.LinkFaults.{Name, Whole, Place, names, as_it_is, dollar, check, within, ancestors, properties, along, differ_from, locals_of, positions_of, label_faults, stated_faults, assert_faults, operand_faults, instruction_faults, code_faults, position_faults, body_faults, function_places, method_places, places, count_faults, repeated_functions, class_checks, property_checks, member_checks, each_class, first_class, faults}
use Rattle.hhbc_repo.proofs.AlikeBodies.{body_checked, class_checked, member_checked}
use Rattle.hhbc_repo.proofs.AlikeWholes.{place, places_called, of_class}
use Rattle.hhbc_repo.proofs.BareWholes.{bare_position_parts, bare_parts, bare_property_parts, bare_class_parts, bare_whole, labels_bare, positions_bare, nesting_bare, bare_alike}
use Rattle.hhbc_repo.proofs.BodyCounts.{places_start, methods_next}
use Rattle.hhbc_repo.proofs.NoFaults.{empty_left, empty_right, none_fails, faultless}

-- ---- a body

-- the checks of assertions
abbrev pub asserts_faults : Place → List PositionParts → List LinkFault
asserts_faults p qs = flat_map (λ (q : PositionParts). flat_map (assert_faults p) q.asserts) qs

pub record ClaimsPass (p : Place) : Type 0 where
  pub stated : stated_faults p.whole p.owner p.body.stated ≡ []
  pub asserts : asserts_faults p (positions_of p.body) ≡ []

module _ (w : Whole) (b : BodyParts) (owner : Name) where
  abbrev here : Place
  here = place w b owner

  abbrev there : Place
  there = place w (bare_parts b) owner

  label_bare : (name : Name) → label_faults there name ≡ label_faults here name
  label_bare name = ap (λ (l : List Name). check (names l name) reasons.UnknownLabel owner name 0) (labels_bare b.items)

  operand_bare : (m : ImmParts) → operand_faults there m ≡ operand_faults here m
  operand_bare (imms.Pos name) = label_bare name
  operand_bare (imms.Arms xs) = λ i. flat_map (λ (a : ArmParts). label_bare a.target i) xs
  operand_bare m = refl

  instruction_bare : (op : Op) (ms : List ImmParts) → instruction_faults there op ms ≡ instruction_faults here op ms
  instruction_bare ops.ClsCnsD (imms.Name name ∷ imms.Class class ∷ []) = refl
  instruction_bare ops.FCallClsMethodD (imms.Count n ∷ imms.Name name ∷ imms.Class class ∷ []) = refl
  instruction_bare ops.FCallFuncD (imms.Count n ∷ imms.Name name ∷ []) = refl
  instruction_bare op ms = λ i. flat_map (λ (m : ImmParts). operand_bare m i) ms

  code_bare : (c : CodeParts) → code_faults there c ≡ code_faults here c
  code_bare (forms.Plain c) = instruction_bare c.op c.imms
  code_bare (forms.Member m) = refl

  each_bare : (qs : List PositionParts) → asserts_faults here qs ≡ [] → flat_map (position_faults there) (map bare_position_parts qs) ≡ flat_map (position_faults here) qs
  each_bare [] e = refl
  each_bare (q ∷ qs) e =
      let first = flat_map (assert_faults here) q.asserts in
      ap₂ (λ (x y : List LinkFault). x ++ y)
      (code_bare q.code ∙ ap (λ (l : List LinkFault). l ++ code_faults here q.code) (sym (empty_left first (asserts_faults here qs) e)))
      (each_bare qs (empty_right first (asserts_faults here qs) e))

  pub body_bare : ClaimsPass (place w b owner) → body_faults (place (bare_whole w) (bare_parts b) owner) ≡ body_faults (place w b owner)
  body_bare c =
      let count : length (positions_of (bare_parts b)) ≡ length (positions_of b) = ap length (positions_bare b.items) ∙ length-map (positions_of b) bare_position_parts in
      let positions : flat_map (position_faults there) (positions_of (bare_parts b)) ≡ flat_map (position_faults here) (positions_of b) =
      ap (flat_map (position_faults there)) (positions_bare b.items) ∙ each_bare (positions_of b) c.asserts in
      let stated : [] ≡ stated_faults w owner b.stated = sym c.stated in
      let claims : body_faults there ≡ body_faults here =
      λ i. (within 255 (length (locals_of b)) owner (codes "locals")
      ++ (within 32 b.iters owner (codes "iterators") ++ (within 65535 (count i) owner (codes "positions") ++ within 64 (nesting_bare 0 b.items i) owner (codes "nesting"))))
      ++ (differ_from reasons.DuplicateName owner dollar [] (locals_of b)
      ++ (differ_from reasons.DuplicateLabel owner as_it_is [] (labels_bare b.items i) ++ (stated i ++ positions i))) in
      body_checked w (bare_whole w) (bare_alike w) (bare_parts b) owner ∙ claims

  asserts_pass : (qs : List PositionParts) → flat_map (position_faults here) qs ≡ [] → asserts_faults here qs ≡ []
  asserts_pass [] e = refl
  asserts_pass (q ∷ qs) e =
      let now = position_faults here q in
      let later = flat_map (position_faults here) qs in
      ap₂ (λ (x y : List LinkFault). x ++ y) (empty_left (flat_map (assert_faults here) q.asserts) (code_faults here q.code) (empty_left now later e)) (asserts_pass qs (empty_right now later e))

  pub claims_pass : body_faults (place w b owner) ≡ [] → ClaimsPass (place w b owner)
  claims_pass e =
      let f = faultless here e in
      record { stated = f.stated; asserts = asserts_pass (positions_of b) f.positions }

-- ---- bodies

abbrev pub BodiesClaimsPass : Whole → (Name → Name) → List BodyParts → Type 0
BodiesClaimsPass w called [] = Unit {0}
BodiesClaimsPass w called (b ∷ bs) = ClaimsPass (place w b (called b.name)) × BodiesClaimsPass w called bs

bodies_bare : (w : Whole) (called : Name → Name) (bs : List BodyParts) → BodiesClaimsPass w called bs
    → flat_map body_faults (places_called (bare_whole w) called (map bare_parts bs)) ≡ flat_map body_faults (places_called w called bs)
bodies_bare w called [] c = refl
bodies_bare w called (b ∷ bs) c = ap₂ (λ (x y : List LinkFault). x ++ y) (body_bare w b (called b.name) c.0) (bodies_bare w called bs c.1)

bodies_claims : (w : Whole) (called : Name → Name) (bs : List BodyParts) → flat_map body_faults (places_called w called bs) ≡ [] → BodiesClaimsPass w called bs
bodies_claims w called [] e = tt
bodies_claims w called (b ∷ bs) e =
    let now = body_faults (place w b (called b.name)) in
    let later = flat_map body_faults (places_called w called bs) in
    (claims_pass w b (called b.name) (empty_left now later e), bodies_claims w called bs (empty_right now later e))

-- ---- classes

-- the checks of what properties state
abbrev pub properties_faults : Whole → Name → List PropertyParts → List LinkFault
properties_faults w owner ps = flat_map (λ (p : PropertyParts). stated_faults w owner p.stated) ps

abbrev pub ClassesClaimsPass : Whole → List ClassParts → Type 0
ClassesClaimsPass w [] = Unit {0}
ClassesClaimsPass w (c ∷ cs) = (properties_faults w c.name c.props ≡ []) × BodiesClaimsPass w (of_class c) c.methods × ClassesClaimsPass w cs

properties_bare : (w : Whole) (owner : Name) (before : List Name) (ps : List PropertyParts) → properties_faults w owner ps ≡ []
    → property_checks w owner before (map bare_property_parts ps) ≡ property_checks w owner before ps
properties_bare w owner before [] e = refl
properties_bare w owner before (p ∷ ps) e =
    let now = stated_faults w owner p.stated in
    ap₂ (λ (x y : List LinkFault). check (not (names before p.name)) reasons.DuplicateProperty owner p.name 0 ++ (x ++ y))
    (sym (empty_left now (properties_faults w owner ps) e)) (properties_bare w owner (before ++ p.name ∷ []) ps (empty_right now (properties_faults w owner ps) e))

properties_claims : (w : Whole) (owner : Name) (before : List Name) (ps : List PropertyParts) → property_checks w owner before ps ≡ [] → properties_faults w owner ps ≡ []
properties_claims w owner before [] e = refl
properties_claims w owner before (p ∷ ps) e =
    let apart = check (not (names before p.name)) reasons.DuplicateProperty owner p.name 0 in
    let now = stated_faults w owner p.stated in
    let later = property_checks w owner (before ++ p.name ∷ []) ps in
    let rest = empty_right apart (now ++ later) e in
    ap₂ (λ (x y : List LinkFault). x ++ y) (empty_left now later rest) (properties_claims w owner (before ++ p.name ∷ []) ps (empty_right now later rest))

classes_bare : (w : Whole) (n : ℕ) (cs : List ClassParts) → each_class (class_checks (bare_whole w)) n (map bare_class_parts cs) ≡ each_class (class_checks w) n cs
classes_bare w n [] = refl
classes_bare w n (c ∷ cs) = ap₂ (λ (x y : List LinkFault). x ++ y) (class_checked w (bare_whole w) (bare_alike w) n (bare_class_parts c)) (classes_bare w (suc n) cs)

member_bare : (w : Whole) (n : ℕ) (c : ClassParts) → properties_faults w c.name c.props ≡ [] → member_checks (bare_whole w) n (bare_class_parts c) ≡ member_checks w n c
member_bare w n c e =
    let consts = differ_from reasons.DuplicateName c.name as_it_is [] (map (λ (k : Const). k.name) c.consts) in
    let claims : member_checks w n (bare_class_parts c) ≡ member_checks w n c =
    ap₂ (λ (props : List LinkFault) (ms : List Name). consts ++ (props ++ differ_from reasons.DuplicateName c.name as_it_is [] ms))
    (properties_bare w c.name (along (properties w) (ancestors w n)) c.props e) (map-map (λ (b : BodyParts). b.name) bare_parts c.methods) in
    member_checked w (bare_whole w) (bare_alike w) n (bare_class_parts c) ∙ claims

members_bare : (w : Whole) (n : ℕ) (cs : List ClassParts) → ClassesClaimsPass w cs → each_class (member_checks (bare_whole w)) n (map bare_class_parts cs) ≡ each_class (member_checks w) n cs
members_bare w n [] c = refl
members_bare w n (k ∷ ks) c = ap₂ (λ (x y : List LinkFault). x ++ y) (member_bare w n k c.0) (members_bare w (suc n) ks c.2)

methods_bare : (w : Whole) (cs : List ClassParts) → ClassesClaimsPass w cs
    → flat_map body_faults (flat_map (method_places (bare_whole w)) (map bare_class_parts cs)) ≡ flat_map body_faults (flat_map (method_places w) cs)
methods_bare w [] c = refl
methods_bare w (k ∷ ks) c =
    flat_map-append body_faults (method_places (bare_whole w) (bare_class_parts k)) (flat_map (method_places (bare_whole w)) (map bare_class_parts ks))
    ∙ ap₂ (λ (x y : List LinkFault). x ++ y) (bodies_bare w (of_class k) k.methods c.1) (methods_bare w ks c.2)
    ∙ sym (flat_map-append body_faults (method_places w k) (flat_map (method_places w) ks))

classes_claims : (w : Whole) (n : ℕ) (cs : List ClassParts) → each_class (member_checks w) n cs ≡ [] → flat_map body_faults (flat_map (method_places w) cs) ≡ [] → ClassesClaimsPass w cs
classes_claims w n [] e m = tt
classes_claims w n (c ∷ cs) e m =
    let consts = differ_from reasons.DuplicateName c.name as_it_is [] (map (λ (k : Const). k.name) c.consts) in
    let before = along (properties w) (ancestors w n) in
    let props = property_checks w c.name before c.props in
    let methods = differ_from reasons.DuplicateName c.name as_it_is [] (map (λ (b : BodyParts). b.name) c.methods) in
    let more = each_class (member_checks w) (suc n) cs in
    let now = flat_map body_faults (method_places w c) in
    let later = flat_map body_faults (flat_map (method_places w) cs) in
    let split = sym (flat_map-append body_faults (method_places w c) (flat_map (method_places w) cs)) ∙ m in (
      properties_claims w c.name before c.props (empty_left props methods (empty_right consts (props ++ methods) (empty_left (member_checks w n c) more e))),
      bodies_claims w (of_class c) c.methods (empty_left now later split),
      classes_claims w (suc n) cs (empty_right (member_checks w n c) more e) (empty_right now later split),
    )

-- ---- all of it

method_counts : (w : Whole) (cs : List ClassParts) → length (flat_map (method_places (bare_whole w)) (map bare_class_parts cs)) ≡ length (flat_map (method_places w) cs)
method_counts w [] = refl
method_counts w (c ∷ cs) =
    methods_next (bare_whole w) (bare_class_parts c) (map bare_class_parts cs)
    ∙ ap₂ (λ (m n : ℕ). m + n) (length-map c.methods bare_parts) (method_counts w cs)
    ∙ sym (methods_next w c cs)

counts_bare : (w : Whole) → count_faults (bare_whole w) ≡ count_faults w
counts_bare w =
    ap₂ (λ (m n : ℕ). within 65535 m [] (codes "functions") ++ within 16384 n [] (codes "classes"))
    (places_start (bare_whole w) ∙ ap₂ (λ (m n : ℕ). m + n) (length-map w.functions bare_parts) (method_counts w w.classes) ∙ sym (places_start w))
    (length-map w.classes bare_class_parts)

functions_bare : (before : List Name) (bs : List BodyParts) → repeated_functions before (map bare_parts bs) ≡ repeated_functions before bs
functions_bare before [] = refl
functions_bare before (b ∷ bs) = ap (λ (l : List LinkFault). check (not (names before b.name)) reasons.DuplicateName b.name b.name 0 ++ l) (functions_bare (before ++ b.name ∷ []) bs)

abbrev pub AllClaimsPass : Whole → Type 0
AllClaimsPass w = BodiesClaimsPass w as_it_is w.functions × ClassesClaimsPass w w.classes

-- the checks are the same without the claims
pub faults_bare : (w : Whole) → AllClaimsPass w → faults (bare_whole w) ≡ faults w
faults_bare w c =
    let v = bare_whole w in
    let bodies : flat_map body_faults (places v) ≡ flat_map body_faults (places w) =
    flat_map-append body_faults (function_places v) (flat_map (method_places v) v.classes)
    ∙ ap₂ (λ (x y : List LinkFault). x ++ y) (bodies_bare w as_it_is w.functions c.0) (methods_bare w w.classes c.1)
    ∙ sym (flat_map-append body_faults (function_places w) (flat_map (method_places w) w.classes)) in
    λ i. counts_bare w i ++ (functions_bare [] w.functions i ++ (classes_bare w first_class w.classes i ++ (members_bare w first_class w.classes c.1 i ++ bodies i)))

pub all_claims : (w : Whole) → faults w ≡ [] → AllClaimsPass w
all_claims w h =
    let n = none_fails w h in
    (bodies_claims w as_it_is w.functions n.bodies, classes_claims w first_class w.classes n.members n.methods)
