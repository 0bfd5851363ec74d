use Rattle.std.proofs.Common.{◌≡◌, take}
use Rattle.hhbc_repo.specs.Canonical.{firsts}
use Rattle.hhas_write.proofs.tables.firsts.Given as goal

abbrev pub invariant-loop-region : goal.invariant-loop-region
invariant-loop-region l = l.out ≡ firsts (take l.region-index l.regions)
