use Rattle.std.proofs.Common.{sym, subst}
use Rattle.hhbc_repo.specs.declared.parts.AssertParts.{AssertParts}
use Rattle.hhbc_repo.specs.Checks.{TellsFirst}
use Rattle.hhbc_repo.specs.LinkFaults.{Name, assert_faults, local_faults, type_faults}
use Rattle.hhbc_repo.proofs.Checking.{checks_first}
use Rattle.hhbc_repo.proofs.scope.Scope.assertion.Goals as goal

pub returns-in-Err : goal.returns-in-Err
returns-in-Err c =
    let p = c.args.self.now in
    subst (λ (a : AssertParts). TellsFirst (assert_faults p a) c.in-Err.error) (sym c.in-Local.is)
    (checks_first (local_faults p c.in-Local.name) (type_faults p.whole p.owner c.in-Local.parts) c.in-Err.error
    (subst (λ (n : Name). TellsFirst (local_faults p n) c.in-Err.error) c.bytes.ensures c.in-Err.ensures))
