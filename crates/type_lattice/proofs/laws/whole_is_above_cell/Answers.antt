use Rattle.type_lattice.proofs.WholeLaws.{is_whole-above, above-is_whole}
use Rattle.type_lattice.proofs.laws.whole_is_above_cell.Goals as goal

pub returns : goal.returns
returns c = λ tree t. (is_whole-above tree t, above-is_whole tree t)
