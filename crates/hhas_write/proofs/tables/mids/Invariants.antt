use Rattle.std.proofs.Common.{◌≡◌, take}
use Rattle.hhbc_repo.specs.Canonical.{mids}
use Rattle.hhas_write.proofs.tables.mids.Given as goal

abbrev pub invariant-loop-region : goal.invariant-loop-region
invariant-loop-region l = l.out ≡ mids (take l.region-index l.regions)
