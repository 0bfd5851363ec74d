use Rattle.std.proofs.Common.{◌≡◌, ◌++◌, drop, map}
use Rattle.std.specs.List.{flat_map}
use Rattle.hhbc_repo.specs.LinkFaults.{operand_faults}
use Rattle.hhbc_repo.specs.Resolved.{resolved_operand}
use Rattle.hhbc_repo.proofs.scope.Scope.operands.Given as goal

abbrev pub invariant-loop-imm : goal.invariant-loop-imm
invariant-loop-imm l =
    (flat_map (operand_faults l.self) l.imms ≡ flat_map (operand_faults l.self) (drop l.imm-index l.imms))
    × (l.linked ++ map (resolved_operand l.self.whole l.self.body) (drop l.imm-index l.imms) ≡ map (resolved_operand l.self.whole l.self.body) l.imms)
