use Rattle.hhbc_repo.proofs.SpelledLengths.{declared_few, properties_few}
use Rattle.hhbc_repo.proofs.fitting.spelled_parts_are_few.Goals as goal

pub returns-clause-lists : goal.returns-clause-lists
returns-clause-lists c n ts ds w h = declared_few n ts ds w h

pub returns-clause-properties : goal.returns-clause-properties
returns-clause-properties c n ts ds w h = properties_few n ts ds w h
