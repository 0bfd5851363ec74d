use Rattle.hhbc_semantics.proofs.StaysTrue.{facts_stay_true}
use Rattle.hhbc_semantics.proofs.soundness.facts_stay_true.Goals as goal

pub returns : goal.returns
returns g c = facts_stay_true g.A.Analysed.analysis
