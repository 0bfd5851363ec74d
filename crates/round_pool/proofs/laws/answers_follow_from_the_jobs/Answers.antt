use Rattle.round_pool.proofs.Giving.{given_map}
use Rattle.round_pool.proofs.laws.answers_follow_from_the_jobs.Goals as goal

pub returns : goal.returns
returns g c = given_map
