use Rattle.std.proofs.Common.{◌+◌, [], ◌∷◌, ◌++◌, List, drop, not, sym, append_assoc}
use Rattle.hhbc_repo.specs.LinkFaults.{along, ancestors, check, names, properties, property_checks, stated_faults}
use Rattle.hhbc_repo.specs.declared.parts.PropertyParts.{PropertyParts}
use Rattle.hhbc_repo.specs.declared.link_fault.LinkKind.TheVariants as kinds
use Rattle.hhbc_repo.proofs.CheckLoops.{loop_tells}
use Rattle.hhbc_repo.proofs.member_checks.check_properties.Goals as goal

pub returns-in-Err : goal.returns-in-Err
returns-in-Err c =
    let w = c.args.known.now in
    let owner = c.args.owner.now in
    let met = along (properties w) (ancestors w c.args.number) ++ c.loop-property.seen in
    let p = c.property-item.result in
    let here = check (not (names met p.name)) kinds.DuplicateProperty owner p.name 0 in
    let more = property_checks w owner (met ++ p.name ∷ []) (drop (c.loop-property.property-index + 1) c.args.properties.now) in
    loop_tells (λ (ps : List PropertyParts). property_checks w owner met ps) c.args.properties.now c.loop-property.property-index p p (here ++ stated_faults w owner p.stated) more _
    c.in-Err.error c.loop-property-test.true c.property-item.is c.loop-property.invariant (sym (append_assoc here (stated_faults w owner p.stated) more)) c.in-Err.ensures
