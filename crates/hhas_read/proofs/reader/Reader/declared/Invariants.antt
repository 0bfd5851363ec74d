use Rattle.std.proofs.Common.{length}
use Rattle.hhas_read.proofs.DeclarationForms.{PartsTaken}
use Rattle.hhas_read.proofs.reader.Reader.declared.Given as goal

abbrev pub invariant-loop-alloc : goal.invariant-loop-alloc
invariant-loop-alloc l = PartsTaken l.fn.self l.self l.parts

abbrev pub decreases-loop-alloc : goal.decreases-loop-alloc
decreases-loop-alloc l = length l.self.tokens
