use Rattle.std.proofs.Common.{◌≡◌, take}
use Rattle.hhbc_repo.specs.Canonical.{lasts}
use Rattle.hhas_write.proofs.tables.lasts.Given as goal

abbrev pub invariant-loop-region : goal.invariant-loop-region
invariant-loop-region l = l.out ≡ lasts (take l.region-index l.regions)
