use Rattle.hack_values.proofs.SameLaws.{is_same-decided}
use Rattle.hack_values.proofs.sameness.same.Goals as goal

pub returns-clause-value : goal.returns-clause-value
returns-clause-value c = is_same-decided c.same_cell.result c.args.a.now c.args.b.now c.same_cell.ensures
