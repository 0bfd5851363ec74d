use Rattle.type_lattice.proofs.NeverLaws.{never_is_never}
use Rattle.type_lattice.proofs.laws.never_is_never.Goals as goal

pub returns : goal.returns
returns c = never_is_never
