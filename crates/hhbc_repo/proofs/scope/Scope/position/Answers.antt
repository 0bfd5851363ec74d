use Rattle.std.proofs.Common.{List, subst}
use Rattle.std.specs.List.{flat_map}
use Rattle.hhbc_repo.specs.Checks.{TellsFirst}
use Rattle.hhbc_repo.specs.declared.parts.AssertParts.{AssertParts}
use Rattle.hhbc_repo.specs.LinkFaults.{assert_faults, code_faults}
use Rattle.hhbc_repo.proofs.Checking.{checks_first}
use Rattle.hhbc_repo.proofs.scope.Scope.position.Goals as goal

pub returns-in-Err : goal.returns-in-Err
returns-in-Err c =
    let p = c.args.self.now in
    let e = c.in-Err.error in
    checks_first (flat_map (assert_faults p) c.args.parts.now.asserts) (code_faults p c.args.parts.now.code) e
    (subst (λ (xs : List AssertParts). TellsFirst (flat_map (assert_faults p) xs) e) c.as_slice.ensures c.in-Err.ensures)
