use Rattle.hhbc_semantics.proofs.WritingLaws.{writes_keep_objects}
use Rattle.hhbc_semantics.proofs.paths.writes_keep_objects.Goals as goal

pub returns : goal.returns
returns c = writes_keep_objects
