use Rattle.type_lattice.proofs.Claimed.{objects_are_like_types}
use Rattle.type_lattice.proofs.laws.objects_are_like_types.Goals as goal

pub returns : goal.returns
returns c = objects_are_like_types
