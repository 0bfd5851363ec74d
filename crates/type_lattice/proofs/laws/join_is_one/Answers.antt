use Rattle.type_lattice.proofs.Claimed.{join_is_one}
use Rattle.type_lattice.proofs.laws.join_is_one.Goals as goal

pub returns : goal.returns
returns c = join_is_one
