use Rattle.func_analyze.proofs.Trimmed.{least_is_alive}
use Rattle.func_analyze.proofs.solution_laws.least_is_alive.Goals as goal

pub returns : goal.returns
returns c = least_is_alive
