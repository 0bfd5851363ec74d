use Rattle.std.proofs.Common.{◌≡◌, map, replicate}
use Rattle.hack_values.specs.declared.cell.Slot.TheVariants as slots
use Rattle.hhbbc_top.specs.Running.{slot_of}
use Rattle.hhbbc_top.proofs.machine.unset.Given as goal

abbrev pub invariant-loop-place : goal.invariant-loop-place
invariant-loop-place l = map slot_of l.locals.items ≡ replicate l.place slots.Uninit
