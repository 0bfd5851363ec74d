use Rattle.hhbc_semantics.proofs.Stripped.{bare_is_first_form}
use Rattle.hhbc_semantics.proofs.laws.bare_is_first_form.Goals as goal

pub returns : goal.returns
returns c = bare_is_first_form
