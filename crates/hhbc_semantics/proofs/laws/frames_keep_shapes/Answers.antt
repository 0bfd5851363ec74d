use Rattle.hhbc_semantics.proofs.NeverSticks.{frames_keep_shapes}
use Rattle.hhbc_semantics.proofs.laws.frames_keep_shapes.Goals as goal

pub returns : goal.returns
returns c = frames_keep_shapes
