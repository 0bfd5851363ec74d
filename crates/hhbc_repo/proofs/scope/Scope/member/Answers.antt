use Rattle.std.proofs.Common.{◌++◌, List, subst}
use Rattle.std.specs.List.{flat_map}
use Rattle.hhbc_repo.specs.Checks.{TellsFirst}
use Rattle.hhbc_repo.specs.declared.parts.MemberKeyParts.{MemberKeyParts}
use Rattle.hhbc_repo.specs.LinkFaults.{base_faults, key_faults, last_key}
use Rattle.hhbc_repo.proofs.Checking.{checks_first, tells_then}
use Rattle.hhbc_repo.proofs.scope.Scope.member.Goals as goal

pub returns-in-Err-keys : goal.returns-in-Err-keys
returns-in-Err-keys c =
    let p = c.args.self.now in
    let m = c.args.parts.now in
    let e = c.in-Err-keys.error in
    tells_then (base_faults p m.base) (flat_map (key_faults p) m.dims ++ key_faults p (last_key m.last)) e c.in-Ok.ensures.0
    (checks_first (flat_map (key_faults p) m.dims) (key_faults p (last_key m.last)) e
    (subst (λ (ks : List MemberKeyParts). TellsFirst (flat_map (key_faults p) ks) e) c.as_slice.ensures c.in-Err-keys.ensures))

pub returns-in-Err : goal.returns-in-Err
returns-in-Err c =
    let p = c.args.self.now in
    let m = c.args.parts.now in
    checks_first (base_faults p m.base) (flat_map (key_faults p) m.dims ++ key_faults p (last_key m.last)) c.in-Err.error c.in-Err.ensures
