use Rattle.hhbc_semantics.proofs.StaysTrue.{starts_are_sound}
use Rattle.hhbc_semantics.proofs.soundness.starts_are_sound.Goals as goal

pub returns : goal.returns
returns g c = starts_are_sound g.A.Analysed.analysis
