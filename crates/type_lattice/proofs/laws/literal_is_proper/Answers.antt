use Rattle.type_lattice.proofs.Claimed.{literal_is_proper}
use Rattle.type_lattice.proofs.laws.literal_is_proper.Goals as goal

pub returns : goal.returns
returns c = literal_is_proper
