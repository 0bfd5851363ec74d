use Rattle.hhbc_semantics.proofs.Operands.{accepted_has_operands}
use Rattle.hhbc_semantics.proofs.laws.accepted_has_operands.Goals as goal

pub returns : goal.returns
returns c = accepted_has_operands
