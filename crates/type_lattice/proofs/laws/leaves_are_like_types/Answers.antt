use Rattle.type_lattice.proofs.Claimed.{leaves_are_like_types}
use Rattle.type_lattice.proofs.laws.leaves_are_like_types.Goals as goal

pub returns : goal.returns
returns c = leaves_are_like_types
