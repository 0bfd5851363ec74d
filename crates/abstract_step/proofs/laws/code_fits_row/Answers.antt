use Rattle.abstract_step.proofs.FlowOrder.{code_fits_row}
use Rattle.abstract_step.proofs.laws.code_fits_row.Goals as goal

pub returns : goal.returns
returns c = code_fits_row
