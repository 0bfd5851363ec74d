use Rattle.std.proofs.Common.{◌≡◌, map, drop}
use Rattle.hhbc_repo.specs.declared.parts.PropertyParts.{PropertyParts}
use Rattle.hhbc_repo.specs.Once.{added_all, once}
use Rattle.hhbc_repo.proofs.declared.property_names.Given as goal

abbrev pub invariant-loop-property : goal.invariant-loop-property
invariant-loop-property l = added_all l.table (map (λ (p : PropertyParts). p.name) (drop l.property-index l.properties)) ≡ once (map (λ (p : PropertyParts). p.name) l.properties)
