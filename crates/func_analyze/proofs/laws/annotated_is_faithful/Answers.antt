use Rattle.func_analyze.proofs.Faithful.{annotated_is_faithful}
use Rattle.func_analyze.proofs.laws.annotated_is_faithful.Goals as goal

pub returns : goal.returns
returns c = annotated_is_faithful
