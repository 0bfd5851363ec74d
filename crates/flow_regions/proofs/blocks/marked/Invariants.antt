use Rattle.std.proofs.Common.{◌≡◌}
use Rattle.std.specs.List.{filter}
use Rattle.hhbc_repo.specs.Bodies.{numbers}
use Rattle.flow_regions.specs.Marks.{has_mark}
use Rattle.flow_regions.proofs.blocks.marked.Given as goal

abbrev pub invariant-loop-position : goal.invariant-loop-position
invariant-loop-position l = l.found ≡ filter (has_mark l.marks) (numbers 0 l.position)
