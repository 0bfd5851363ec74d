use Rattle.std.proofs.Common.{length, replicate, slice_set, true, false, ap, ◌∙◌}
use Rattle.flow_regions.proofs.Marking.{first_mark, marks_after}
use Rattle.flow_regions.proofs.blocks.block_marks.Goals as goal

pub loop-position-init : goal.loop-position-init
loop-position-init c =
    c.mark.ensures
    ∙ ap (λ m. slice_set m 0 true) (c.in_ok-marks.ensures ∙ ap (λ n. replicate n false) c.in_ok-count.ensures)
    ∙ first_mark c.args.body.now (length c.args.body.now.positions)

pub loop-position-preserved : goal.loop-position-preserved
loop-position-preserved c =
    marks_after c.args.body.now (length c.args.body.now.positions) c.loop-position.position c.loop-position.marks c.mark_from.new.marks
    c.loop-position.invariant c.in_ok-mark_from.ensures
