use Rattle.class_index.proofs.LevelLaws.{levels_are_sets}
use Rattle.class_index.proofs.laws.levels_are_sets.Goals as goal

pub returns : goal.returns
returns c = levels_are_sets
