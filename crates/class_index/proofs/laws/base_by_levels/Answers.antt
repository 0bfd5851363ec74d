use Rattle.class_index.proofs.LevelLaws.{base_by_levels}
use Rattle.class_index.proofs.laws.base_by_levels.Goals as goal

pub returns : goal.returns
returns c = base_by_levels
