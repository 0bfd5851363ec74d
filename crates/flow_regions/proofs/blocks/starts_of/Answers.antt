use Rattle.std.proofs.Common.{◌≡◌, IfOk, length, subst, ◌∙◌}
use Rattle.std.specs.List.{filter}
use Rattle.hhbc_repo.specs.Bodies.{numbers}
use Rattle.flow_regions.specs.BlockStarts.{begins_block}
use Rattle.flow_regions.specs.Marks.{has_mark}
use Rattle.flow_regions.proofs.Marking.{marked_pass}
use Rattle.flow_regions.proofs.blocks.starts_of.Goals as goal

pub returns : goal.returns
returns c =
    let b = c.args.body.now in
    let marks = c.as_slice.ensures ∙ c.in_ok-marks.ensures in
    let found = (λ i. filter (has_mark (marks i)) (numbers 0 (c.in_ok-count.ensures i))) ∙ marked_pass (begins_block b) (length b.positions) in
    subst (λ l. IfOk c.marked.result (λ found. found ≡ l)) found c.marked.ensures
