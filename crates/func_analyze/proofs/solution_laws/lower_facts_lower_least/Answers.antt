use Rattle.func_analyze.proofs.Trimmed.{lower_facts_lower_least}
use Rattle.func_analyze.proofs.solution_laws.lower_facts_lower_least.Goals as goal

pub returns : goal.returns
returns c = lower_facts_lower_least
