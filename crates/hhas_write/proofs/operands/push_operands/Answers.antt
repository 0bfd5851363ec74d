use Rattle.std.proofs.Common.{arith}
use Rattle.hhbc_repo.specs.Canonical.{canonical_operand}
use Rattle.hhbc_repo.specs.CanonicalText.{operand_pieces}
use Rattle.hhas_write.proofs.Written.{written_mapped}
use Rattle.hhas_write.proofs.operands.push_operands.Goals as goal

pub returns : goal.returns
returns c = written_mapped (operand_pieces c.args.op) (canonical_operand c.args.scope.now.classes c.args.scope.now.body) c.args.operands.now c.loop-operand.operand-index c.args.out.now c.loop-operand.out c.loop-operand.invariant (omega arith)
