use Rattle.std.proofs.Common.{ap, length, arith}
use Rattle.stack_verify.proofs.Catches.{at_end}
use Rattle.stack_verify.proofs.walk.catches.Goals as goal

pub returns : goal.returns
returns c =
    let e = ap length c.as_slice-region-items.ensures in
    at_end c.args.body.now.regions c.loop-region.region-index c.args.count c.loop-region.catches.items (omega (arith, e)) c.loop-region.invariant
