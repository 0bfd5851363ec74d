use Rattle.hhbbc_top.proofs.Headline.{obeyed}
use Rattle.hhbbc_top.proofs.top.obey.Goals as goal

pub returns-in-Ok-clause-answer : goal.returns-in-Ok-clause-answer
returns-in-Ok-clause-answer g c =
    obeyed c.args.command _ _ _ _ c.in-Ok.text _ _ _ c.in-Ok.ensures.all c.in-Ok.ensures.ended (rw c.limit_of.ensures at c.in-Ok.ensures.within) c.in-Ok.ensures.faults c.answer_to.ensures
