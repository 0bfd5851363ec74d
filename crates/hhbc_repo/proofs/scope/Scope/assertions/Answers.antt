use Rattle.std.proofs.Common.{refl}
use Rattle.std.specs.List.{flat_map}
use Rattle.hhbc_repo.specs.LinkFaults.{assert_faults}
use Rattle.hhbc_repo.proofs.CheckLoops.{item_tells}
use Rattle.hhbc_repo.proofs.scope.Scope.assertions.Goals as goal

pub returns-in-Err : goal.returns-in-Err
returns-in-Err c =
    let of = assert_faults c.args.self.now in
    item_tells (flat_map of) of c.args.asserts.now c.loop-parts.parts-index c.parts-item.result c.parts-item.result c.in-Err.error (λ y ys. refl) c.loop-parts-test.true c.parts-item.is c.loop-parts.invariant.0
    c.in-Err.ensures
