use Rattle.hhbbc_top.proofs.Machines.{unset-one}
use Rattle.hhbbc_top.proofs.machine.unset.Goals as goal

pub loop-place-preserved : goal.loop-place-preserved
loop-place-preserved c = rw c.in_ok-push.ensures.items (unset-one c.loop-place.locals.items c.loop-place.place c.loop-place.invariant)
