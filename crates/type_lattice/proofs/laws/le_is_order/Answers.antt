use Rattle.type_lattice.proofs.Claimed.{le_is_order}
use Rattle.type_lattice.proofs.laws.le_is_order.Goals as goal

pub returns : goal.returns
returns c = le_is_order
