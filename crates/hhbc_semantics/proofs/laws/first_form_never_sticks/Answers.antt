use Rattle.hhbc_semantics.proofs.LocalCodes.{first_form_never_sticks}
use Rattle.hhbc_semantics.proofs.laws.first_form_never_sticks.Goals as goal

pub returns : goal.returns
returns c = first_form_never_sticks
