use Rattle.std.proofs.Common.{◌≡◌, ◌||◌, drop}
use Rattle.std.specs.List.{list_any}
use Rattle.flow_regions.specs.BlockStarts.{is_jump, is_next}
use Rattle.flow_regions.specs.EdgeLists.{told}
use Rattle.flow_regions.proofs.blocks.ends_block.Given as goal

abbrev pub invariant-loop-edge : goal.invariant-loop-edge
invariant-loop-edge l =
    ((l.jumps || list_any is_jump (told (drop l.edge-index l.edges))) ≡ list_any is_jump (told l.edges))
    × ((l.goes_on || list_any is_next (told (drop l.edge-index l.edges))) ≡ list_any is_next (told l.edges))
