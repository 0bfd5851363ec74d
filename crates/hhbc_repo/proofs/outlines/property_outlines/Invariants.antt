use Rattle.std.proofs.Common.{◌≡◌, map, take}
use Rattle.hhbc_repo.specs.Outlines.{property_outline}
use Rattle.hhbc_repo.proofs.outlines.property_outlines.Given as goal

abbrev pub invariant-loop-property : goal.invariant-loop-property
invariant-loop-property l = l.all ≡ map property_outline (take l.property-index l.properties)
