use Rattle.std.proofs.Common.{take}
use Rattle.hhas_write.specs.Tables.{Tallied}
use Rattle.hhas_write.proofs.tables.tally.Given as goal

abbrev pub invariant-loop-number : goal.invariant-loop-number
invariant-loop-number l = Tallied l.size (take l.number-index l.numbers) l.counts.items
