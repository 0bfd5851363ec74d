-- Outlines tell bodies and classes all that they need to know of one another.
use Rattle.std.proofs.Common.{◌≡◌, List, [], ◌++◌, map, flat_map, refl, ap₂, sym, ◌∙◌, subst}
use Rattle.std.specs.Prelude.{Result}
use Rattle.std.proofs.lemmas.Grind.{flat_map-append}
use Rattle.std.proofs.lemmas.Simd.{map-map}
use Rattle.hhbc_repo.specs.declared.body.Body.{Body}
use Rattle.hhbc_repo.specs.declared.link_fault.LinkError.{LinkError}
use Rattle.hhbc_repo.specs.declared.link_fault.LinkFault.{LinkFault}
use Rattle.hhbc_repo.specs.declared.parts.BodyParts.{BodyParts}
use Rattle.hhbc_repo.specs.declared.parts.ClassParts.{ClassParts}
use Rattle.hhbc_repo.specs.declared.parts.PropertyParts.{PropertyParts}
use Rattle.hhbc_repo.specs.declared.repo.Class.{Class}
use Rattle.hhbc_repo.specs.declared.repo.Const.{Const}
use Rattle.hhbc_repo.specs.Checks.{Checks}
use Rattle.hhbc_repo.specs.LinkFaults.{Whole, as_it_is, body_faults, first_class, method_places, repeated_functions}
use Rattle.hhbc_repo.specs.Outlines.{bodies_among, body_outline, class_outline, constant_outline, declared_faults, outline, property_outline}
use Rattle.hhbc_repo.specs.Resolved.{resolved_body, resolved_class}
use Rattle.hhbc_repo.proofs.AlikeWholes.{Alike, places_called}
use Rattle.hhbc_repo.proofs.AlikeBodies.{body_links, bodies_checked, class_links, classes_checked, members_checked, methods_checked}
use Rattle.hhbc_repo.proofs.OtherBodies.{Keeps, made_alike}

outlines_keep : Keeps body_outline class_outline
outlines_keep = record {
  body_name = λ b. refl;
  body_params = λ b. refl;
  class_name = λ c. refl;
  class_parent = λ c. refl;
  class_consts = λ c. map-map (λ (k : Const). k.name) constant_outline c.consts;
  class_props = λ c. map-map (λ (p : PropertyParts). p.name) property_outline c.props;
  class_methods = λ c. refl;
}

outline_alike : (w : Whole) → Alike w (outline w)
outline_alike w = made_alike body_outline class_outline outlines_keep w

bodies_outlined : (w : Whole) (bs : List BodyParts) (cs : List ClassParts) → flat_map body_faults (bodies_among (outline w) bs cs) ≡ flat_map body_faults (bodies_among w bs cs)
bodies_outlined w bs cs =
    let v = outline w in
    let alike = outline_alike w in
    flat_map-append body_faults (places_called v as_it_is bs) (flat_map (method_places v) cs)
    ∙ ap₂ (λ (x y : List LinkFault). x ++ y) (bodies_checked w v alike as_it_is bs) (methods_checked w v alike cs)
    ∙ sym (flat_map-append body_faults (places_called w as_it_is bs) (flat_map (method_places w) cs))

-- the checks are the same by the outlines of the whole
checks_outlined : (w : Whole) (bs : List BodyParts) (cs : List ClassParts) → declared_faults (outline w) bs cs ≡ declared_faults w bs cs
checks_outlined w bs cs =
    let v = outline w in
    let alike = outline_alike w in
    λ i. repeated_functions [] bs
    ++ (classes_checked w v alike first_class cs i ++ (members_checked w v alike first_class cs i ++ bodies_outlined w bs cs i))

abbrev pub both_linked : Whole → List BodyParts → List ClassParts → List Body × List Class
both_linked w bs cs = (map (resolved_body w) bs, map (resolved_class w) cs)

links_outlined : (w : Whole) (bs : List BodyParts) (cs : List ClassParts) → both_linked (outline w) bs cs ≡ both_linked w bs cs
links_outlined w bs cs =
    let v = outline w in
    let alike = outline_alike w in
    λ i. (map (λ (b : BodyParts). body_links w v alike b i) bs, map (λ (c : ClassParts). class_links w v alike c i) cs)

-- what is checked and linked by the outlines of the whole is so by the whole
pub by_outlines : (w : Whole) (bs : List BodyParts) (cs : List ClassParts) (r : Result (List Body × List Class) LinkError)
    → Checks (declared_faults (outline w) bs cs) (both_linked (outline w) bs cs) r → Checks (declared_faults w bs cs) (both_linked w bs cs) r
by_outlines w bs cs r checks =
    let sound = subst (λ (fs : List LinkFault). Checks fs (both_linked (outline w) bs cs) r) (checks_outlined w bs cs) checks in
    subst (λ (p : List Body × List Class). Checks (declared_faults w bs cs) p r) (links_outlined w bs cs) sound
