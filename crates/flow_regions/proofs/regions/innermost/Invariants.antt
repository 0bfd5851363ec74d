use Rattle.std.proofs.Common.{◌≡◌, drop}
use Rattle.hhbc_repo.specs.Edges.{innermost}
use Rattle.flow_regions.proofs.regions.innermost.Given as goal

abbrev pub invariant-loop-at : goal.invariant-loop-at
invariant-loop-at l = l.found ≡ innermost (drop l.at l.regions) l.position
