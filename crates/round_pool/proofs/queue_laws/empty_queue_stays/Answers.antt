use Rattle.round_pool.proofs.Queued.{empty_queue_stays}
use Rattle.round_pool.proofs.queue_laws.empty_queue_stays.Goals as goal

pub returns : goal.returns
returns g c = empty_queue_stays g.A.Dependents.bodies
