use Rattle.std.proofs.Common.{rules, List, map, sym, subst}
use Rattle.std.specs.List.{flat_map}
use Rattle.std.proofs.lemmas.Grind.{flat_map-append}
use Rattle.hhbc_repo.specs.declared.link_fault.LinkFault.{LinkFault}
use Rattle.hhbc_repo.specs.declared.parts.BodyParts.{BodyParts}
use Rattle.hhbc_repo.specs.Checks.{TellsFirst}
use Rattle.hhbc_repo.specs.LinkFaults.{Place, body_faults, method_places}
use Rattle.hhbc_repo.proofs.Checking.{checks_first}
use Rattle.hhbc_repo.proofs.linker.linked_bodies.Goals as goal

pub returns-in-Err : goal.returns-in-Err
returns-in-Err c =
    let w = c.args.known.now in
    let e = c.in-Err.error in
    let places : List Place = map (λ (b : BodyParts). record { whole = w; body = b; owner = b.name }) c.args.functions in
    let functions : TellsFirst (flat_map body_faults places) e = search rules in
    subst (λ (l : List LinkFault). TellsFirst l e) (sym (flat_map-append body_faults places (flat_map (method_places w) c.args.classes))) (checks_first _ _ e functions)
