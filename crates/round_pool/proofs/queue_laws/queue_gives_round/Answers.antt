use Rattle.round_pool.proofs.Queued.{queue_gives_round}
use Rattle.round_pool.proofs.queue_laws.queue_gives_round.Goals as goal

pub returns : goal.returns
returns g c = queue_gives_round g.A.Dependents.bodies
