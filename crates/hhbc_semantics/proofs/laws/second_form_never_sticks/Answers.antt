use Rattle.hhbc_semantics.proofs.LocalCodes.{second_form_never_sticks}
use Rattle.hhbc_semantics.proofs.laws.second_form_never_sticks.Goals as goal

pub returns : goal.returns
returns c = second_form_never_sticks
