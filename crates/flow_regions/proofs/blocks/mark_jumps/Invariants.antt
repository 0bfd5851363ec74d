use Rattle.std.proofs.Common.{◌≡◌, drop}
use Rattle.flow_regions.specs.EdgeLists.{told}
use Rattle.flow_regions.specs.Marks.{jumped}
use Rattle.flow_regions.proofs.blocks.mark_jumps.Given as goal

abbrev pub invariant-loop-edge : goal.invariant-loop-edge
invariant-loop-edge l = jumped l.marks (told (drop l.edge-index l.edges)) ≡ jumped l.initial.marks (told l.edges)
