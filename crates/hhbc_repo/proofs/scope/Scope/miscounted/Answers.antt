use Rattle.std.proofs.Common.{subst, false, refl}
use Rattle.hhbc_repo.specs.Checks.{Tells}
use Rattle.hhbc_repo.specs.LinkFaults.{Place}
use Rattle.hhbc_repo.specs.declared.link_fault.LinkKind.TheVariants as kinds
use Rattle.hhbc_repo.proofs.Checking.{check_told}
use Rattle.hhbc_repo.proofs.scope.Scope.miscounted.Goals as goal

pub returns : goal.returns
returns c =
    let p = c.args.self.now in
    let name = c.args.name.now in
    check_told false kinds.WrongArity p.owner name c.args.count c.counted.result (refl)
    (subst (λ (q : Place). Tells (record { kind = kinds.WrongArity; owner = q.owner; name = name; found = c.args.count }) c.counted.result) c.self.view_is c.counted.ensures)
