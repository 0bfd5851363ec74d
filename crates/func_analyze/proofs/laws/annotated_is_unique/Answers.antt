use Rattle.func_analyze.proofs.Unique.{annotated_is_unique}
use Rattle.func_analyze.proofs.laws.annotated_is_unique.Goals as goal

pub returns : goal.returns
returns c = annotated_is_unique
