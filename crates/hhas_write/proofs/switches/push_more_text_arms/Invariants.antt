use Rattle.std.proofs.Common.{◌≡◌, ◌++◌, take}
use Rattle.std.specs.List.{flat_map}
use Rattle.hhas_lex.specs.Spaced.{text_of}
use Rattle.hhbc_repo.specs.Canonical.{canonical_arm}
use Rattle.hhbc_repo.specs.CanonicalText.{more_arm}
use Rattle.hhbc_repo.specs.declared.code.Arm.{Arm}
use Rattle.hhas_write.proofs.switches.push_more_text_arms.Given as goal

abbrev pub invariant-loop-arm : goal.invariant-loop-arm
invariant-loop-arm l = l.out ≡ l.fn.out ++ flat_map (λ (a : Arm). text_of (more_arm (canonical_arm l.scope.body a))) (take l.arm-index l.arms)
