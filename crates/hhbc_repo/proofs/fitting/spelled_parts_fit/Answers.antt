use Rattle.hhbc_repo.proofs.SpelledFits.{declared_fit}
use Rattle.hhbc_repo.proofs.fitting.spelled_parts_fit.Goals as goal

pub returns : goal.returns
returns c ts ds p w = declared_fit ts ds w p
