use Rattle.hhbc_semantics.proofs.StaysTrue.{closed_facts_are_true}
use Rattle.hhbc_semantics.proofs.soundness.closed_facts_are_true.Goals as goal

pub returns : goal.returns
returns g c = closed_facts_are_true g.A.Analysed.analysis
