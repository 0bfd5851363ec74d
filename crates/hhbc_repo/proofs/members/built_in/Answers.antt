use Rattle.std.proofs.Common.{arith}
use Rattle.std.proofs.lemmas.Grind.{common_steps}
use Rattle.hhbc_repo.proofs.Numbered.{total_append}
use Rattle.hhbc_repo.proofs.members.built_in.Goals as goal

pub loop-preserved : goal.loop-preserved
loop-preserved c = (grind (arith, common_steps), grind (arith, common_steps, total_append))
