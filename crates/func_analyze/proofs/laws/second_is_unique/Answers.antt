use Rattle.func_analyze.proofs.SecondForm.{second_is_unique}
use Rattle.func_analyze.proofs.laws.second_is_unique.Goals as goal

pub returns : goal.returns
returns c = second_is_unique
