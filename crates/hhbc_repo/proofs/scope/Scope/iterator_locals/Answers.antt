use Rattle.hhbc_repo.specs.LinkFaults.{key_local, local_faults}
use Rattle.hhbc_repo.proofs.Checking.{checks_first}
use Rattle.hhbc_repo.proofs.scope.Scope.iterator_locals.Goals as goal

pub returns-in-Err : goal.returns-in-Err
returns-in-Err c = checks_first (key_local c.args.self.now c.args.key.now) (local_faults c.args.self.now c.args.value.now) c.in-Err.error c.in-Err.ensures
