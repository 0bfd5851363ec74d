use Rattle.type_lattice.proofs.Claimed.{literal_is_least}
use Rattle.type_lattice.proofs.laws.literal_is_least.Goals as goal

pub returns : goal.returns
returns c = literal_is_least
