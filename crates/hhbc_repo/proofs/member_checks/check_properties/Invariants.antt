use Rattle.std.proofs.Common.{◌≡◌, ◌++◌, drop}
use Rattle.hhbc_repo.specs.LinkFaults.{along, ancestors, properties, property_checks}
use Rattle.hhbc_repo.proofs.member_checks.check_properties.Given as goal

abbrev pub invariant-loop-property : goal.invariant-loop-property
invariant-loop-property l =
    property_checks l.known l.owner (along (properties l.known) (ancestors l.known l.number) ++ l.seen) (drop l.property-index l.properties)
    ≡ property_checks l.known l.owner (along (properties l.known) (ancestors l.known l.number)) l.properties
