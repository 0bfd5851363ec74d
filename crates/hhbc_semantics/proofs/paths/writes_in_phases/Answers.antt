use Rattle.hhbc_semantics.proofs.WritingLaws.{writes_in_phases}
use Rattle.hhbc_semantics.proofs.paths.writes_in_phases.Goals as goal

pub returns : goal.returns
returns c = writes_in_phases
