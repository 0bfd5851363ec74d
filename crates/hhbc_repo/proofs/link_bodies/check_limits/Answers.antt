use Rattle.std.proofs.Common.{rules, ◌≡◌, [], length, codes}
use Rattle.hhbc_repo.specs.Checks.{TellsFirst}
use Rattle.hhbc_repo.specs.LinkFaults.{locals_of, positions_of, within}
use Rattle.hhbc_repo.proofs.Checking.{checks_first, tells_then}
use Rattle.hhbc_repo.proofs.link_bodies.check_limits.Goals as goal

pub returns-in-Err : goal.returns-in-Err
returns-in-Err c =
    let locals : TellsFirst (within 255 (length (locals_of c.args.body.now)) c.args.owner.now (codes "locals")) c.in-Err.error = search rules in
    λ w. checks_first _ _ c.in-Err.error locals

pub returns-in-Err-check_limit : goal.returns-in-Err-check_limit
returns-in-Err-check_limit c =
    let e = c.in-Err-check_limit.error in
    let locals : within 255 (length (locals_of c.args.body.now)) c.args.owner.now (codes "locals") ≡ [] = search rules in
    let iters : TellsFirst (within 32 c.args.body.now.iters c.args.owner.now (codes "iterators")) e = search rules in
    λ w. tells_then _ _ e locals (checks_first _ _ e iters)

pub returns-in-Err-check_limit-2 : goal.returns-in-Err-check_limit-2
returns-in-Err-check_limit-2 c =
    let e = c.in-Err-check_limit-2.error in
    let locals : within 255 (length (locals_of c.args.body.now)) c.args.owner.now (codes "locals") ≡ [] = search rules in
    let iters : within 32 c.args.body.now.iters c.args.owner.now (codes "iterators") ≡ [] = search rules in
    let positions : TellsFirst (within 65535 (length (positions_of c.args.body.now)) c.args.owner.now (codes "positions")) e = search rules in
    λ w. tells_then _ _ e locals (tells_then _ _ e iters (checks_first _ _ e positions))
