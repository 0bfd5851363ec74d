use Rattle.std.proofs.Common.{◌≡◌, replicate, None}
use Rattle.flow_regions.proofs.regions.no_handlers.Given as goal

abbrev pub invariant-loop-position : goal.invariant-loop-position
invariant-loop-position l = l.found ≡ replicate l._position None
