use Rattle.hhas_write.proofs.Turning.{ends_more}
use Rattle.hhas_write.proofs.turns.push_ends.Goals as goal

pub loop-preserved : goal.loop-preserved
loop-preserved c =
    ends_more c.loop.counter c.args.out.now c.loop.out c.line_close.new.out c.args.depth.now c.loop.depth c.saturating_sub.result c.loop.invariant c.saturating_sub.ensures
    c.in_ok-line_close.ensures
