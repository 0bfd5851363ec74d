use Rattle.type_lattice.proofs.Claimed.{parts_keep_members}
use Rattle.type_lattice.proofs.laws.parts_keep_members.Goals as goal

pub returns : goal.returns
returns c = parts_keep_members
