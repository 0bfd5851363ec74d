use Rattle.hhas_read.proofs.FirstFaults.{fault_one}
use Rattle.hhas_read.proofs.laws.first_fault_is_one.Goals as goal

pub returns-clause-one : goal.returns-clause-one
returns-clause-one c = fault_one
