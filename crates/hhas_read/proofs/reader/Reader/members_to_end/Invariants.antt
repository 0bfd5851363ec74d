use Rattle.std.proofs.Common.{length}
use Rattle.hhas_read.proofs.ClassLaws.{MembersTaken}
use Rattle.hhas_read.proofs.reader.Reader.members_to_end.Given as goal

abbrev pub invariant-loop-alloc : goal.invariant-loop-alloc
invariant-loop-alloc l = MembersTaken l.fn.self l.self l.members

abbrev pub decreases-loop-alloc : goal.decreases-loop-alloc
decreases-loop-alloc l = length l.self.tokens
