use Rattle.std.proofs.Common.{subst}
use Rattle.hhbc_repo.specs.Bodies.{bodies}
use Rattle.hhbc_repo.specs.LookUps.{Sound}
use Rattle.hhbc_repo.proofs.FewIterators.{few_at}
use Rattle.hhbc_repo.proofs.repo.Repo.is_sound.Goals as goal

pub returns-clause-sound : goal.returns-clause-sound
returns-clause-sound c = subst Sound c.self.view_is c.self.invariant.sound

pub returns-clause-iterators : goal.returns-clause-iterators
returns-clause-iterators c n b e = few_at (bodies c.args.self.now) n b (returns-clause-sound c).iterators e
