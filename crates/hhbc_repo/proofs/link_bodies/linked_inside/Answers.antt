use Rattle.std.proofs.Common.{rules}
use Rattle.hhbc_repo.specs.Checks.{TellsFirst}
use Rattle.hhbc_repo.specs.LinkFaults.{stated_faults}
use Rattle.hhbc_repo.proofs.Checking.{checks_first}
use Rattle.hhbc_repo.proofs.link_bodies.linked_inside.Goals as goal

pub returns-in-Err : goal.returns-in-Err
returns-in-Err c =
    let stated : TellsFirst (stated_faults c.args.known.now c.args.owner.now c.args.body.now.stated) c.in-Err.error = search rules in
    checks_first _ _ c.in-Err.error stated
