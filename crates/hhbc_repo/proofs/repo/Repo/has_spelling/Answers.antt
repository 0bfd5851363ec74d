use Rattle.std.proofs.Common.{subst}
use Rattle.hhbc_repo.specs.Spelled.{HasSpelling}
use Rattle.hhbc_repo.proofs.repo.Repo.has_spelling.Goals as goal

pub returns : goal.returns
returns c = subst HasSpelling c.self.view_is c.self.invariant.spelling
