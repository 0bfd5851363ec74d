use Rattle.std.proofs.lemmas.Grind.{common_steps}
use Rattle.std.proofs.Common.{arith}
use Rattle.hack_values.proofs.Rows.{entry-depths}
use Rattle.hack_values.proofs.cell.+depth.Goals as goal

pub DictVal::depth-returns : goal.DictVal::depth-returns
DictVal::depth-returns t c = rw (← c.self.view_is, entry-depths c.self.inside.keys c.self.inside.vals.items c.self.invariant.0) (grind (arith, common_steps))
