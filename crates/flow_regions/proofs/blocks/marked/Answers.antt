use Rattle.std.proofs.Common.{◌∷◌, [], ◌++◌, cond, sym, ◌∙◌}
use Rattle.flow_regions.specs.Marks.{has_mark}
use Rattle.flow_regions.proofs.Marking.{filter_next}
use Rattle.flow_regions.proofs.blocks.marked.Goals as goal

pub loop-position-preserved : goal.loop-position-preserved
loop-position-preserved c =
    c.in_ok-push_if.ensures
    ∙ (λ i. c.loop-position.invariant i ++ cond (c.is_marked.ensures i) (c.loop-position.position ∷ []) [])
    ∙ sym (filter_next (has_mark c.args.marks.now) c.loop-position.position)
