use Rattle.hack_values.proofs.Rows.{remove-entries}
use Rattle.hack_values.proofs.cell.DictVal.remove.Goals as goal

pub returns-in-Some-clause-rest : goal.returns-in-Some-clause-rest
returns-in-Some-clause-rest c =
    rw (← c.find.ensures.place, c.in-Some.is, ← c.self.view_is, c.take_at.ensures.rest, c.remove.ensures.items) (remove-entries _ _ _ c.self.invariant.0)
