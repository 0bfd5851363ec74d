use Rattle.type_lattice.proofs.Claimed.{height_is_bounded}
use Rattle.type_lattice.proofs.laws.height_is_bounded.Goals as goal

pub returns : goal.returns
returns c = height_is_bounded
