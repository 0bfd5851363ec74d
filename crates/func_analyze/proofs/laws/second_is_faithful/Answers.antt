use Rattle.func_analyze.proofs.Faithful.{second_is_faithful}
use Rattle.func_analyze.proofs.laws.second_is_faithful.Goals as goal

pub returns : goal.returns
returns c = second_is_faithful
