use Rattle.std.proofs.Common.{take}
use Rattle.hhbbc_top.specs.Mains.{AreLines}
use Rattle.hhbbc_top.proofs.form.lines_of.Given as goal

abbrev pub invariant-loop-position : goal.invariant-loop-position
invariant-loop-position l = AreLines l.locals (take l.position-index l.positions) l.lines
