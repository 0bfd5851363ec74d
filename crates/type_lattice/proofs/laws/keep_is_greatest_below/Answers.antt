use Rattle.type_lattice.proofs.Claimed.{keep_is_greatest_below}
use Rattle.type_lattice.proofs.laws.keep_is_greatest_below.Goals as goal

pub returns : goal.returns
returns c = keep_is_greatest_below
