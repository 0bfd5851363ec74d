use Rattle.class_index.proofs.WritingLaws.{writes_rise}
use Rattle.class_index.proofs.laws.writes_rise.Goals as goal

pub returns : goal.returns
returns c = writes_rise
