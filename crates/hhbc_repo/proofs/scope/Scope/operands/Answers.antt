use Rattle.std.proofs.Common.{refl}
use Rattle.std.specs.List.{flat_map}
use Rattle.hhbc_repo.specs.LinkFaults.{operand_faults}
use Rattle.hhbc_repo.proofs.CheckLoops.{item_tells}
use Rattle.hhbc_repo.proofs.scope.Scope.operands.Goals as goal

pub returns-in-Err : goal.returns-in-Err
returns-in-Err c =
    let of = operand_faults c.args.self.now in
    item_tells (flat_map of) of c.args.imms.now c.loop-imm.imm-index c.imm-item.result c.imm-item.result c.in-Err.error (λ y ys. refl) c.loop-imm-test.true c.imm-item.is c.loop-imm.invariant.0
    c.in-Err.ensures
