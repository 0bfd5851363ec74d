use Rattle.type_lattice.proofs.Constraints.{constraint_is_tested}
use Rattle.type_lattice.proofs.laws.constraint_is_tested.Goals as goal

pub returns : goal.returns
returns c = constraint_is_tested
