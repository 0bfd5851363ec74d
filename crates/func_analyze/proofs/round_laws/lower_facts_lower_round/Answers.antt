use Rattle.func_analyze.proofs.RoundOrder.{lower_facts_lower_round}
use Rattle.func_analyze.proofs.round_laws.lower_facts_lower_round.Goals as goal

pub returns : goal.returns
returns c = lower_facts_lower_round
