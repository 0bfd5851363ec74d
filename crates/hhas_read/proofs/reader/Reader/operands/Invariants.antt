use Rattle.std.proofs.Common.{drop}
use Rattle.hhas_read.proofs.OperandRuns.{OperandsTaken}
use Rattle.hhas_read.proofs.reader.Reader.operands.Given as goal

abbrev pub invariant-loop-kind : goal.invariant-loop-kind
invariant-loop-kind l = OperandsTaken l.kinds (drop l.kind-index l.kinds) l.fn.self l.self l.operands
