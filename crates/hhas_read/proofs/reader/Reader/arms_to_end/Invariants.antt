use Rattle.std.proofs.Common.{length}
use Rattle.hhas_read.proofs.ArmForms.{ArmNext}
use Rattle.hhas_read.proofs.reader.Reader.arms_to_end.Given as goal

abbrev pub invariant-loop-arms : goal.invariant-loop-arms
invariant-loop-arms l = ArmNext l.fn.self l.self l.arms

abbrev pub decreases-loop-arms : goal.decreases-loop-arms
decreases-loop-arms l = length l.self.tokens
