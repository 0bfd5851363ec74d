use Rattle.std.proofs.Common.{◌≡◌, ◌∙◌, ap, sym, Some}
use Rattle.flow_regions.specs.EdgeLists.{told, edges_from}
use Rattle.hhbc_repo.specs.Shapes.{hands_on}
use Rattle.stack_verify.specs.Left.{left_along}
use Rattle.stack_verify.specs.Walk.{led_all}
use Rattle.stack_verify.proofs.Leaving.{left_is, led_alike}
use Rattle.stack_verify.proofs.edges.follow.Goals as goal

pub returns : goal.returns
returns c =
    let code = c.args.code.now in
    let known = c.args.known.now in
    let left = c.in_ok-left.left in
    let T = c.args.table.now.items in
    let e : led_all (hands_on (Some code) known) (edges_from code c.args.position c.args.handler) T ≡ led_all (left_along left known) (told c.as_slice.result.now) T =
    led_alike (hands_on (Some code) known) (left_along left known) (edges_from code c.args.position c.args.handler) T (left_is code known left c.in_ok-left.ensures)
    ∙ ap (λ es. led_all (left_along left known) es T) (sym (ap told c.as_slice.ensures ∙ c.in_ok-edges.ensures)) in
    rw e c.lead_all.ensures
