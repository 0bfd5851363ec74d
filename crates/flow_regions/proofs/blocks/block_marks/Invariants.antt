use Rattle.std.proofs.Common.{◌≡◌, ◌||◌, ◌==◌, length}
use Rattle.hhbc_repo.specs.Bodies.{numbers}
use Rattle.flow_regions.specs.BlockStarts.{one_lets}
use Rattle.flow_regions.specs.Marks.{marked_by}
use Rattle.flow_regions.proofs.blocks.block_marks.Given as goal

abbrev pub invariant-loop-position : goal.invariant-loop-position
invariant-loop-position l = l.marks ≡ marked_by (λ q. (0 == q) || one_lets l.body (numbers 0 l.position) q) (length l.body.positions)
