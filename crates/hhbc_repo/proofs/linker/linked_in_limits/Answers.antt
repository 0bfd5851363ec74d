use Rattle.std.proofs.Common.{◌≡◌, List, map, sym, ap, ap₂, subst, ◌∙◌}
use Rattle.hhbc_repo.specs.declared.parts.BodyParts.{BodyParts}
use Rattle.hhbc_repo.specs.declared.parts.ClassParts.{ClassParts}
use Rattle.hhbc_repo.specs.Checks.{Checks}
use Rattle.hhbc_repo.specs.LinkFaults.{Whole}
use Rattle.hhbc_repo.specs.Outlines.{body_outline, class_outline, declared_faults, outline}
use Rattle.hhbc_repo.proofs.Outlined.{both_linked, by_outlines}
use Rattle.hhbc_repo.proofs.linker.linked_in_limits.Goals as goal

abbrev whole : List BodyParts → List ClassParts → Whole
whole fs cs = record { functions = fs; classes = cs }

pub returns-in-Ok : goal.returns-in-Ok
returns-in-Ok c =
    let fs = c.args.functions in
    let cs = c.args.classes in
    let r = c.linked_known.result in
    let functions = c.as_slice-3.ensures ∙ c.in_ok-callable.ensures ∙ ap (map body_outline) c.as_slice.ensures in
    let classes = c.as_slice-4.ensures ∙ c.in_ok-declared.ensures ∙ ap (map class_outline) c.as_slice-2.ensures in
    let seen : c.in-Ok.known ≡ outline (whole fs cs) = c.in-Ok.ensures ∙ ap₂ whole functions classes in
    let checked = by_outlines (whole fs cs) fs cs r (subst (λ (u : Whole). Checks (declared_faults u fs cs) (both_linked u fs cs) r) seen c.linked_known.ensures) in
    λ w is. subst (λ (u : Whole). Checks (declared_faults u u.functions u.classes) (both_linked u u.functions u.classes) r) (sym is) checked
