use Rattle.hhbc_semantics.proofs.Stripped.{runs_as_bare}
use Rattle.hhbc_semantics.proofs.laws.runs_as_bare.Goals as goal

pub returns : goal.returns
returns c = runs_as_bare
