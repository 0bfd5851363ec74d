use Rattle.std.proofs.Common.{refl}
use Rattle.std.specs.List.{flat_map}
use Rattle.hhbc_repo.specs.LinkFaults.{label_faults}
use Rattle.hhbc_repo.specs.declared.parts.ArmParts.{ArmParts}
use Rattle.hhbc_repo.proofs.CheckLoops.{item_tells}
use Rattle.hhbc_repo.proofs.scope.Scope.arms.Goals as goal

pub returns-in-Err : goal.returns-in-Err
returns-in-Err c =
    let of = λ (a : ArmParts). label_faults c.args.self.now a.target in
    item_tells (flat_map of) of c.args.arms.now c.loop-arm.arm-index c.arm-item.result c.arm-item.result c.in-Err.error (λ y ys. refl) c.loop-arm-test.true c.arm-item.is c.loop-arm.invariant.0
    c.in-Err.ensures
