use Rattle.hhbc_ops.proofs.Names.{names_differ}
use Rattle.hhbc_ops.proofs.laws.names_differ.Goals as goal

pub returns : goal.returns
returns c = names_differ
