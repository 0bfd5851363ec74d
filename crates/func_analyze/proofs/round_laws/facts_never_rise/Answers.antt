use Rattle.func_analyze.proofs.RoundOrder.{facts_never_rise}
use Rattle.func_analyze.proofs.round_laws.facts_never_rise.Goals as goal

pub returns : goal.returns
returns c = facts_never_rise
