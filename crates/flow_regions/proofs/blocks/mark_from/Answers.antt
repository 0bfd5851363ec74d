use Rattle.std.proofs.Common.{ap, ◌∙◌}
use Rattle.flow_regions.specs.EdgeLists.{told}
use Rattle.flow_regions.specs.Marks.{begun}
use Rattle.flow_regions.proofs.Handled.{edges_known}
use Rattle.flow_regions.proofs.blocks.mark_from.Goals as goal

pub returns : goal.returns
returns c =
    let b = c.args.body.now in
    let p = c.args.position in
    let known = edges_known b p c.as_slice.result.now c.index-as_slice-position.result c.args.handlers.now c.handler_at.result c.as_slice.ensures c.requires.within c.requires.handlers c.handler_at.ensures in
    c.mark_begun.ensures
    ∙ ap (λ es. begun c.args.marks.now (told es) p) c.as_slice-2.ensures
    ∙ ap (λ es. begun c.args.marks.now es p) (c.in_ok-edges.ensures ∙ known)
