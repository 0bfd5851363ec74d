use Rattle.std.proofs.Common.{◌≡◌, map, take}
use Rattle.hhbc_repo.specs.Outlines.{constant_outline}
use Rattle.hhbc_repo.proofs.outlines.constant_outlines.Given as goal

abbrev pub invariant-loop-constant : goal.invariant-loop-constant
invariant-loop-constant l = l.all ≡ map constant_outline (take l.constant-index l.constants)
