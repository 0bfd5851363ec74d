use Rattle.hhbc_semantics.proofs.BareShapes.{bare_is_accepted}
use Rattle.hhbc_semantics.proofs.laws.bare_is_accepted.Goals as goal

pub returns : goal.returns
returns c = bare_is_accepted
