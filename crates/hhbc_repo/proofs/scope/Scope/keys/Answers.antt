use Rattle.std.proofs.Common.{refl}
use Rattle.std.specs.List.{flat_map}
use Rattle.hhbc_repo.specs.LinkFaults.{key_faults}
use Rattle.hhbc_repo.proofs.CheckLoops.{item_tells}
use Rattle.hhbc_repo.proofs.scope.Scope.keys.Goals as goal

pub returns-in-Err : goal.returns-in-Err
returns-in-Err c =
    let of = key_faults c.args.self.now in
    item_tells (flat_map of) of c.args.keys.now c.loop-key.key-index c.key-item.result c.key-item.result c.in-Err.error (λ y ys. refl) c.loop-key-test.true c.key-item.is c.loop-key.invariant.0
    c.in-Err.ensures
