use Rattle.type_lattice.proofs.Singles.{singles_are_proper}
use Rattle.type_lattice.proofs.laws.singles_are_proper.Goals as goal

pub returns : goal.returns
returns c = singles_are_proper
