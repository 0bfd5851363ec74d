use Rattle.class_index.proofs.LevelLaws.{effects_by_levels}
use Rattle.class_index.proofs.laws.effects_by_levels.Goals as goal

pub returns : goal.returns
returns c = effects_by_levels
