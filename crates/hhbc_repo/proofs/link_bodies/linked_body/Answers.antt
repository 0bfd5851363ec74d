use Rattle.hhbc_repo.specs.LinkFaults.{Place, limit_faults}
use Rattle.hhbc_repo.proofs.Checking.{checks_first, checks_then}
use Rattle.hhbc_repo.proofs.WithinLimits.{passed, told, limits_hold}
use Rattle.hhbc_repo.proofs.link_bodies.linked_body.Goals as goal

pub linked_in_limits-requires : goal.linked_in_limits-requires
linked_in_limits-requires c =
    let place : Place = record { whole = c.args.known.now; body = c.args.body.now; owner = c.args.owner.now } in
    limits_hold place (passed (limit_faults place) tt _ c.check_limits.result c.in-Ok.is (c.check_limits.ensures c.args.known.now))

pub returns-in-Ok : goal.returns-in-Ok
returns-in-Ok c =
    let place : Place = record { whole = c.args.known.now; body = c.args.body.now; owner = c.args.owner.now } in
    checks_then (limit_faults place) _ _ _ (passed (limit_faults place) tt _ c.check_limits.result c.in-Ok.is (c.check_limits.ensures c.args.known.now)) c.linked_in_limits.ensures

pub returns-in-Err : goal.returns-in-Err
returns-in-Err c =
    let place : Place = record { whole = c.args.known.now; body = c.args.body.now; owner = c.args.owner.now } in
    checks_first (limit_faults place) _ c.in-Err.error (told (limit_faults place) tt c.in-Err.error c.check_limits.result c.in-Err.is (c.check_limits.ensures c.args.known.now))
