use Rattle.std.proofs.Common.{◌∙◌}
use Rattle.class_index.proofs.Candidates.{all_entered, method_within}
use Rattle.class_index.proofs.entered.targets.Goals as goal

pub is_entered-requires : goal.is_entered-requires
is_entered-requires c = method_within c.args.repo.now c.args.name.now c.methods_named-body-items.result.now c.loop-body.body-index c.methods_named-body-items.ensures c.loop-body-test.true

pub takes-requires : goal.takes-requires
takes-requires c = method_within c.args.repo.now c.args.name.now c.methods_named-body-items.result.now c.loop-body.body-index c.methods_named-body-items.ensures c.loop-body-test.true

pub returns : goal.returns
returns c =
    c.loop-body.invariant
    ∙ all_entered c.args.repo.now c.is_sound.ensures.sound c.args.receiver c.args.name.now c.args.count c.methods_named-body-items.result.now c.loop-body.body-index
    c.methods_named-body-items.ensures c.loop-body-test.false
