use Rattle.std.proofs.Common.{◌≡◌, ◌++◌, take, map}
use Rattle.hhbc_repo.specs.declared.code.Arm.{Arm}
use Rattle.hhbc_repo.proofs.code_facts.push_arm_labels.Given as goal

abbrev pub invariant-loop-arm : goal.invariant-loop-arm
invariant-loop-arm l = l.labels ≡ l.fn.labels ++ map (λ (a : Arm). a.target) (take l.arm-index l.arms)
