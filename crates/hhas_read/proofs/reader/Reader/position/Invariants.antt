use Rattle.std.proofs.Common.{length}
use Rattle.hhas_read.proofs.PositionLaws.{AssertionsTaken}
use Rattle.hhas_read.proofs.reader.Reader.position.Given as goal

abbrev pub invariant-loop-self : goal.invariant-loop-self
invariant-loop-self l = AssertionsTaken l.fn.self l.self l.asserts

abbrev pub decreases-loop-self : goal.decreases-loop-self
decreases-loop-self l = length l.self.tokens
