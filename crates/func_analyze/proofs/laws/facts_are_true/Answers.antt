use Rattle.func_analyze.proofs.FactsTrue.{facts_are_true}
use Rattle.func_analyze.proofs.laws.facts_are_true.Goals as goal

pub returns : goal.returns
returns c = facts_are_true
