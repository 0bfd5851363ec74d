use Rattle.std.proofs.Common.{◌≡◌, drop}
use Rattle.std.specs.List.{flat_map}
use Rattle.hhbc_repo.specs.LinkFaults.{class_faults, type_faults}
use Rattle.hhbc_repo.proofs.listed.Listed.check_type.Given as goal

abbrev pub invariant-loop-name : goal.invariant-loop-name
invariant-loop-name l = type_faults l.self l.owner l.parts ≡ flat_map (class_faults l.self l.owner) (drop l.name-index l.name-items)
