use Rattle.std.proofs.Common.{◌≡◌, true, ◌++◌, drop, map}
use Rattle.hhbc_repo.specs.Names.{distinct_from}
use Rattle.hhbc_repo.specs.declared.repo.Property.{Property}
use Rattle.hhbc_repo.proofs.name_table.table_of_properties.Given as goal

abbrev pub invariant-loop-property : goal.invariant-loop-property
invariant-loop-property l = (distinct_from l.table (map (λ (p : Property). p.name) (drop l.property-index l.properties)) ≡ true) × (l.table ++ (map (λ (p : Property). p.name) (drop l.property-index l.properties)) ≡ map (λ (p : Property). p.name) l.properties)
