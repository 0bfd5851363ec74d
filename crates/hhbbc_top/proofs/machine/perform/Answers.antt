use Rattle.std.proofs.Common.{◌∙◌, sym, reverse}
use Rattle.hhbc_semantics.specs.Run.{no_world}
use Rattle.hhbbc_top.proofs.Machines.{returned-top}
use Rattle.hhbbc_top.proofs.machine.perform.Goals as goal

pub returns-in-Some : goal.returns-in-Some
returns-in-Some c = λ S b. rw c.in-RetC.is (returned-top (reverse c.args.machine.now.stack.items) c.in-Some.value no_world
    (rw c.deref-in-RetC.ensures.value at (sym c.below_top.ensures ∙ c.in-Some.is)))
