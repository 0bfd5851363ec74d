use Rattle.std.proofs.Common.{◌≡◌, drop, length}
use Rattle.hhbc_repo.specs.Edges.{catch_of, innermost}
use Rattle.flow_regions.specs.Guarded.{handled}
use Rattle.flow_regions.proofs.regions.handlers.Given as goal

abbrev pub invariant-loop-at : goal.invariant-loop-at
invariant-loop-at l = l.found ≡ handled (λ p. catch_of (innermost (drop l.at l.regions) p)) (length l.fn.body.positions)
