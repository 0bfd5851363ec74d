use Rattle.hhbc_repo.proofs.ClaimsSet.{returns_fit}
use Rattle.hhbc_repo.proofs.repo.Repo.set_returns.Goals as goal

pub set_claim-requires-clause-fits : goal.set_claim-requires-clause-fits
set_claim-requires-clause-fits c b e = returns_fit c.args.self.now c.has_spelling.ensures c.is_sound.ensures.sound.lists c.args.body b e c.args.stated c.requires.proper
