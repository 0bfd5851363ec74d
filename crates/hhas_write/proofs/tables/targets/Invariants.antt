use Rattle.std.proofs.Common.{◌≡◌, take}
use Rattle.std.specs.List.{flat_map}
use Rattle.hhbc_repo.specs.Canonical.{position_targets}
use Rattle.hhas_write.proofs.tables.targets.Given as goal

abbrev pub invariant-loop-position : goal.invariant-loop-position
invariant-loop-position l = l.out ≡ flat_map position_targets (take l.position-index l.positions)
