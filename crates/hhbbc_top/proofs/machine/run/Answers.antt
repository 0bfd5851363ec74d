use Rattle.std.proofs.Common.{◌≡◌, arith}
use Rattle.hhbbc_top.proofs.Machines.{goes-on, run-ended, run-spent}
use Rattle.hhbbc_top.proofs.machine.run.Goals as goal

pub returns-in-Some : goal.returns-in-Some
returns-in-Some c =
    run-ended c.args.main.now c.args.asserted c.loop-count.machine c.take_turn.new.machine c.loop-count.count c.args.steps c.in_ok-ending.field-0 c.in-Some.ending
    c.loop-count.invariant c.loop-count-test.true c.in-Some.is c.in_ok-ending.ensures

pub returns : goal.returns
returns c =
    let all : c.loop-count.count ≡ c.args.steps = omega (arith, c.loop-count-test.false, c.loop-count.auto.count-end) in
    run-spent c.args.main.now c.args.asserted c.loop-count.machine c.loop-count.count c.args.steps all c.loop-count.invariant

pub loop-count-preserved : goal.loop-count-preserved
loop-count-preserved c =
    goes-on c.args.main.now c.args.asserted c.loop-count.machine c.take_turn.new.machine c.loop-count.count c.in_ok-ending.field-0
    c.loop-count.invariant c.in_default.is c.in_ok-ending.ensures
