use Rattle.type_lattice.proofs.Ranges.{proper_is_tested}
use Rattle.type_lattice.proofs.laws.proper_is_tested.Goals as goal

pub returns : goal.returns
returns c = proper_is_tested
