use Rattle.func_analyze.proofs.RoundResults.{results_make_round}
use Rattle.func_analyze.proofs.round_laws.results_make_round.Goals as goal

pub returns : goal.returns
returns c = results_make_round
