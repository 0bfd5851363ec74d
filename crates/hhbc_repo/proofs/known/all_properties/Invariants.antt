use Rattle.std.proofs.Common.{◌≡◌, ◌++◌, map, drop}
use Rattle.hhbc_repo.specs.declared.parts.ClassParts.{ClassParts}
use Rattle.hhbc_repo.specs.LinkFaults.{property_names}
use Rattle.hhbc_repo.specs.Once.{once, property_tables}
use Rattle.hhbc_repo.proofs.known.all_properties.Given as goal

abbrev pub invariant-loop-class : goal.invariant-loop-class
invariant-loop-class l = l.all ++ map (λ (c : ClassParts). once (property_names c)) (drop l.class-index l.classes) ≡ property_tables l.classes
