use Rattle.std.proofs.Common.{◌∙◌, arith}
use Rattle.flow_regions.proofs.Guarding.{none_lowered, one_lowered}
use Rattle.flow_regions.proofs.regions.guard_all.Goals as goal

pub loop-position-init : goal.loop-position-init
loop-position-init c = ((λ f n e. e ∙ none_lowered c.args.first c.args.mid f n), omega arith)

pub loop-position-preserved : goal.loop-position-preserved
loop-position-preserved c = (
  (λ f n e.
      one_lowered c.args.first c.loop-position.position c.args.mid f n c.loop-position.handlers c.guard.new.handlers (c.loop-position.invariant.0 f n e)
      c.loop-position.invariant.1 c.guard.ensures),
  let l = c.loop-position.invariant.1 in omega (arith, l),
)
