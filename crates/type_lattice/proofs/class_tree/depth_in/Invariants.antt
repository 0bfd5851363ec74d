use Rattle.std.proofs.Common.{◌≡◌, length, ◌+◌}
use Rattle.type_lattice.specs.Classes.{chain}
use Rattle.type_lattice.proofs.class_tree.depth_in.Given as goal

abbrev pub invariant-loop-parent : goal.invariant-loop-parent
invariant-loop-parent l = l.depth + length (chain l.parents l.at) ≡ length (chain l.parents l.class)

abbrev pub decreases-loop-parent : goal.decreases-loop-parent
decreases-loop-parent l = length (chain l.parents l.at)
