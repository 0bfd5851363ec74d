use Rattle.abstract_step.proofs.FlowOrder.{flow_is_monotone}
use Rattle.abstract_step.proofs.laws.flow_is_monotone.Goals as goal

pub returns : goal.returns
returns c = flow_is_monotone
