use Rattle.std.proofs.Common.{◌≡◌, map, take}
use Rattle.hhbc_repo.specs.Outlines.{body_outline}
use Rattle.hhbc_repo.proofs.outlines.body_outlines.Given as goal

abbrev pub invariant-loop-body : goal.invariant-loop-body
invariant-loop-body l = l.all ≡ map body_outline (take l.body-index l.bodies)
