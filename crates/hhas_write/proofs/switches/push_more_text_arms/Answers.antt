use Rattle.std.proofs.Common.{arith}
use Rattle.hhbc_repo.specs.Canonical.{canonical_arm}
use Rattle.hhbc_repo.specs.CanonicalText.{more_arm}
use Rattle.hhas_write.proofs.Written.{written_mapped}
use Rattle.hhas_write.proofs.switches.push_more_text_arms.Goals as goal

pub returns : goal.returns
returns c = written_mapped more_arm (canonical_arm c.args.scope.now.body) c.args.arms.now c.loop-arm.arm-index c.args.out.now c.loop-arm.out c.loop-arm.invariant (omega arith)
