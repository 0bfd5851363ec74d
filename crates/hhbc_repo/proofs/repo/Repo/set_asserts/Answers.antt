use Rattle.hhbc_repo.proofs.ClaimsSet.{asserts_fit}
use Rattle.hhbc_repo.proofs.repo.Repo.set_asserts.Goals as goal

pub set_claim-requires-clause-fits : goal.set_claim-requires-clause-fits
set_claim-requires-clause-fits c b e = asserts_fit c.args.self.now c.has_spelling.ensures c.is_sound.ensures.sound.lists c.args.body b e c.args.position c.args.asserts (c.requires.fits b e) c.requires.few
