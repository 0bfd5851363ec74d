use Rattle.type_lattice.proofs.Claimed.{depth_is_bounded}
use Rattle.type_lattice.proofs.laws.depth_is_bounded.Goals as goal

pub returns : goal.returns
returns c = depth_is_bounded
