use Rattle.std.proofs.Common.{length}
use Rattle.hhas_read.proofs.ItemTurns.{Inside}
use Rattle.hhas_read.proofs.Nesting.{Block, Closes}
use Rattle.hhas_read.proofs.reader.Reader.items_to_end.Given as goal

abbrev pub invariant-items : goal.invariant-items
invariant-items l = Inside l.fn.self l.self (Block l.needs_code (Closes l.opened)) l.items

abbrev pub decreases-items : goal.decreases-items
decreases-items l = length l.self.tokens
