use Rattle.type_lattice.proofs.Claimed.{members_stay}
use Rattle.type_lattice.proofs.laws.members_stay.Goals as goal

pub returns : goal.returns
returns c = members_stay
