use Rattle.std.proofs.Common.{List, Result, map, refl, ap, sym, subst, ◌∙◌}
use Rattle.hhbc_repo.specs.declared.body.Body.{Body}
use Rattle.hhbc_repo.specs.declared.repo.Class.{Class}
use Rattle.hhbc_repo.specs.declared.link_fault.LinkError.{LinkError}
use Rattle.hhbc_repo.specs.declared.parts.BodyParts.{BodyParts}
use Rattle.hhbc_repo.specs.declared.parts.ClassParts.{ClassParts}
use Rattle.hhbc_repo.specs.Linked.{Linked}
use Rattle.hhbc_repo.specs.LookUps.{Sound}
use Rattle.hhbc_repo.specs.Checks.{Checks}
use Rattle.hhbc_repo.specs.LinkFaults.{Whole, faults}
use Rattle.hhbc_repo.specs.Resolved.{resolved_body, resolved_class}
use Rattle.hhbc_repo.specs.Spelled.{HasSpelling}
use Rattle.hhbc_repo.proofs.LinksBack.{linked_back}
use Rattle.hhbc_repo.proofs.SoundLinks.{sound_links}
use Rattle.hhbc_repo.proofs.linker.link.Goals as goal

abbrev whole : List BodyParts → List ClassParts → Whole
whole fs cs = record { functions = fs; classes = cs }

abbrev both : List Body × List Class → Linked
both p = record { functions = p.0; classes = p.1 }

abbrev linked : Whole → List Body × List Class
linked w = (map (resolved_body w) w.functions, map (resolved_class w) w.classes)

pub new-requires-clause-sound : goal.new-requires-clause-sound
new-requires-clause-sound c =
    let w = whole c.args.parts.functions c.args.parts.classes in
    let checked : Checks (faults w) (linked w) c.linked_parts.result = c.linked_parts.ensures w refl in
    let passes = subst (λ (q : Result (List Body × List Class) LinkError). Checks (faults w) (linked w) q) c.in-Ok.is checked in
    subst Sound (sym (ap both passes.1)) (sound_links w c.requires.properties c.requires.lists passes.0)

pub new-requires-clause-spelled : goal.new-requires-clause-spelled
new-requires-clause-spelled c =
    let w = whole c.args.parts.functions c.args.parts.classes in
    let checked : Checks (faults w) (linked w) c.linked_parts.result = c.linked_parts.ensures w refl in
    let passes = subst (λ (q : Result (List Body × List Class) LinkError). Checks (faults w) (linked w) q) c.in-Ok.is checked in
    let back = linked_back w c.args.parts.spelled passes.0 in
    subst HasSpelling (sym (ap both passes.1)) (record { fits = back.0; links = back.1 })

pub returns-in-Ok-new : goal.returns-in-Ok-new
returns-in-Ok-new c =
    let w = whole c.args.parts.functions c.args.parts.classes in
    let checked : Checks (faults w) (linked w) c.linked_parts.result = c.linked_parts.ensures w refl in
    let passes = subst (λ (q : Result (List Body × List Class) LinkError). Checks (faults w) (linked w) q) c.in-Ok.is checked in
    record { sound = passes.0; is = c.in-Ok-new.ensures ∙ ap both passes.1 }
