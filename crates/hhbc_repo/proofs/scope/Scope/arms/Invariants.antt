use Rattle.std.proofs.Common.{◌≡◌, ◌++◌, drop, map}
use Rattle.std.specs.List.{flat_map}
use Rattle.hhbc_repo.specs.LinkFaults.{label_faults}
use Rattle.hhbc_repo.specs.Resolved.{resolved_arm}
use Rattle.hhbc_repo.specs.declared.parts.ArmParts.{ArmParts}
use Rattle.hhbc_repo.proofs.scope.Scope.arms.Given as goal

abbrev pub invariant-loop-arm : goal.invariant-loop-arm
invariant-loop-arm l =
    (flat_map (λ (a : ArmParts). label_faults l.self a.target) l.arms ≡ flat_map (λ (a : ArmParts). label_faults l.self a.target) (drop l.arm-index l.arms))
    × (l.linked ++ map (resolved_arm l.self.body) (drop l.arm-index l.arms) ≡ map (resolved_arm l.self.body) l.arms)
