use Rattle.std.proofs.Common.{length}
use Rattle.hhas_read.proofs.StringArmForms.{TextsTaken}
use Rattle.hhas_read.proofs.reader.Reader.string_arms_to_end.Given as goal

abbrev pub invariant-loop-self : goal.invariant-loop-self
invariant-loop-self l = TextsTaken l.fn.self l.self l.arms

abbrev pub decreases-loop-self : goal.decreases-loop-self
decreases-loop-self l = length l.self.tokens
