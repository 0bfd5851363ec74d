use Rattle.round_pool.proofs.ByResults.{result_rounds_are_facts}
use Rattle.round_pool.proofs.queue_laws.result_rounds_are_facts.Goals as goal

pub returns : goal.returns
returns g c = result_rounds_are_facts _
