use Rattle.hhbc_semantics.proofs.SampleTrue.{sample_is_true}
use Rattle.hhbc_semantics.proofs.soundness.sample_is_true.Goals as goal

pub returns : goal.returns
returns c = sample_is_true
