use Rattle.std.proofs.Common.{◌++◌, not, subst}
use Rattle.hhbc_repo.specs.Checks.{TellsFirst}
use Rattle.hhbc_repo.specs.LinkFaults.{Name, along, ancestors, check, names, properties, stated_faults}
use Rattle.hhbc_repo.specs.declared.link_fault.LinkKind.TheVariants as kinds
use Rattle.hhbc_repo.proofs.Checking.{checks_first}
use Rattle.hhbc_repo.proofs.member_checks.with_property.Goals as goal

pub returns-in-Err : goal.returns-in-Err
returns-in-Err c =
    let met = along (properties c.args.known.now) (ancestors c.args.known.now c.args.number) ++ c.args.seen in
    checks_first (check (not (names met c.args.property.now.name)) kinds.DuplicateProperty c.args.owner.now c.args.property.now.name 0)
    (stated_faults c.args.known.now c.args.owner.now c.args.property.now.stated) c.in-Err.error
    (subst (λ (n : Name). TellsFirst (check (not (names met n)) kinds.DuplicateProperty c.args.owner.now n 0) c.in-Err.error) c.bytes.ensures c.in-Err.ensures)
