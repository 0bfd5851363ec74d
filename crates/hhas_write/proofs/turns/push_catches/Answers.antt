use Rattle.hhas_write.proofs.Turning.{catches_more}
use Rattle.hhas_write.proofs.turns.push_catches.Goals as goal

pub loop-preserved : goal.loop-preserved
loop-preserved c =
    catches_more c.loop.counter c.args.out.now c.loop.out c.push_catch.new.out c.args.depth c.saturating_sub.result c.loop.invariant c.saturating_sub.ensures c.in_ok-push_catch.ensures
