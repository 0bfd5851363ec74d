use Rattle.std.proofs.Common.{subst, false, refl}
use Rattle.hhbc_repo.specs.Checks.{Tells}
use Rattle.hhbc_repo.specs.LinkFaults.{Place}
use Rattle.hhbc_repo.specs.declared.link_fault.LinkKind.TheVariants as kinds
use Rattle.hhbc_repo.proofs.Checking.{check_told}
use Rattle.hhbc_repo.proofs.scope.Scope.missing.Goals as goal

pub returns : goal.returns
returns c =
    let p = c.args.self.now in
    let name = c.args.name.now in
    check_told false kinds.UnknownName p.owner name 0 c.unknown.result (refl)
    (subst (λ (q : Place). Tells (record { kind = kinds.UnknownName; owner = q.owner; name = name; found = 0 }) c.unknown.result) c.self.view_is c.unknown.ensures)
