use Rattle.std.proofs.Common.{◌≡◌, drop}
use Rattle.flow_regions.specs.EdgeLists.{told}
use Rattle.stack_verify.specs.Left.{left_along}
use Rattle.stack_verify.specs.Walk.{led_all}
use Rattle.stack_verify.proofs.edges.lead_all.Given as goal

abbrev pub invariant-loop-edge : goal.invariant-loop-edge
invariant-loop-edge l =
    led_all (left_along l.left l.known) (told l.edges) l.fn.table.items
    ≡ led_all (left_along l.left l.known) (told (drop l.edge-index l.edges)) l.table.items
