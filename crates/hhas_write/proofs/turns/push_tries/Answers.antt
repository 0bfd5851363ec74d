use Rattle.std.proofs.Common.{rules}
use Rattle.hhas_write.proofs.Turning.{tries_more}
use Rattle.hhas_write.proofs.turns.push_tries.Goals as goal

pub loop-preserved : goal.loop-preserved
loop-preserved c =
    tries_more c.loop.counter c.args.out.now c.loop.out c.push_try.new.out c.args.depth.now c.loop.depth c.in-Some.inner c.loop.invariant c.in_ok-push_try.ensures
    (search rules)
