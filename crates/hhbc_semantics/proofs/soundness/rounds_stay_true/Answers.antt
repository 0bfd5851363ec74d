use Rattle.hhbc_semantics.proofs.StaysTrue.{rounds_stay_true}
use Rattle.hhbc_semantics.proofs.soundness.rounds_stay_true.Goals as goal

pub returns : goal.returns
returns g c = rounds_stay_true g.A.Analysed.analysis
