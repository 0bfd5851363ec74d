use Rattle.hhbc_semantics.proofs.StaysTrue.{calls_are_told}
use Rattle.hhbc_semantics.proofs.soundness.calls_are_told.Goals as goal

pub returns : goal.returns
returns g c = calls_are_told g.A.Analysed.analysis
