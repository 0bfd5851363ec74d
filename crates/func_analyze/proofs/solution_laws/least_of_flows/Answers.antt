use Rattle.func_analyze.proofs.Trimmed.{least_of_flows}
use Rattle.func_analyze.proofs.solution_laws.least_of_flows.Goals as goal

pub returns : goal.returns
returns c = least_of_flows
