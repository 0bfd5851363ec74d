use Rattle.std.proofs.Common.{◌≡◌, replicate, false}
use Rattle.flow_regions.proofs.blocks.no_marks.Given as goal

abbrev pub invariant-loop-position : goal.invariant-loop-position
invariant-loop-position l = l.marks ≡ replicate l._position false
