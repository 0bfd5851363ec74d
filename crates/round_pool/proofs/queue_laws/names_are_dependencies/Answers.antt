use Rattle.round_pool.proofs.ByResults.{names_are_dependencies}
use Rattle.round_pool.proofs.queue_laws.names_are_dependencies.Goals as goal

pub returns : goal.returns
returns c = names_are_dependencies
