use Rattle.hhbbc_top.proofs.Machines.{stepped-as}
use Rattle.hhbbc_top.proofs.machine.advance.Goals as goal

pub returns-in-Goes : goal.returns-in-Goes
returns-in-Goes c = λ m e. stepped-as m c.args.machine.now c.perform.new.machine c.args.line.now _ _ c.in_ok-perform.ensures e c.in-Goes.is

pub returns-in-Returns : goal.returns-in-Returns
returns-in-Returns c = λ m e. stepped-as m c.args.machine.now c.perform.new.machine c.args.line.now _ _ c.in_ok-perform.ensures e c.in-Returns.is

pub returns-in-Raises : goal.returns-in-Raises
returns-in-Raises c = λ m e. stepped-as m c.args.machine.now c.perform.new.machine c.args.line.now _ _ c.in_ok-perform.ensures e c.in-Raises.is

pub returns-in-Sticks : goal.returns-in-Sticks
returns-in-Sticks c = λ m e. stepped-as m c.args.machine.now c.perform.new.machine c.args.line.now _ _ c.in_ok-perform.ensures e c.in-Sticks.is
