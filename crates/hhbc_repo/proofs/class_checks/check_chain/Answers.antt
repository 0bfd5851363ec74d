use Rattle.std.proofs.Common.{ap, not, nat_le, Some}
use Rattle.type_lattice.specs.Classes.{chain, has, parent_of}
use Rattle.hhbc_repo.specs.LinkFaults.{above, check, different}
use Rattle.hhbc_repo.specs.declared.link_fault.LinkKind.TheVariants as kinds
use Rattle.hhbc_repo.proofs.Checking.{check_told, checks_first}
use Rattle.hhbc_repo.proofs.class_checks.check_chain.Goals as goal

pub returns-in-Some-Cycle : goal.returns-in-Some-Cycle
returns-in-Some-Cycle c =
    let tree = c.args.parents.now in
    let number = c.args.number in
    let name = c.args.name.now in
    let below = not (has number (above tree (parent_of tree number))) in
    checks_first (check below kinds.ClassCycle name name 0) (check (nat_le (different (chain tree number)) 64) kinds.ClassTooDeep name name 0) c.plain.result
    (check_told below kinds.ClassCycle name name 0 c.plain.result (ap not (c.in-Some-Cycle.ensures.cycle (ap Some c.in-Some-Cycle.field-0-is))) c.plain.ensures)
