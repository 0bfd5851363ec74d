use Rattle.type_lattice.proofs.Claimed.{classes_are_ordered}
use Rattle.type_lattice.proofs.laws.classes_are_ordered.Goals as goal

pub returns : goal.returns
returns c = classes_are_ordered
