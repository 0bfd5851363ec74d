use Rattle.func_analyze.proofs.RoundResults.{results_depend_on_names}
use Rattle.func_analyze.proofs.round_laws.results_depend_on_names.Goals as goal

pub returns : goal.returns
returns c = results_depend_on_names
