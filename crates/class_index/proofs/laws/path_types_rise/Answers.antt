use Rattle.class_index.proofs.ReadingLaws.{path_types_rise}
use Rattle.class_index.proofs.laws.path_types_rise.Goals as goal

pub returns : goal.returns
returns c = path_types_rise
