use Rattle.round_pool.proofs.Queued.{rounds_give_one}
use Rattle.round_pool.proofs.queue_laws.rounds_give_one.Goals as goal

pub returns : goal.returns
returns g c = rounds_give_one g.A.Dependents.bodies
