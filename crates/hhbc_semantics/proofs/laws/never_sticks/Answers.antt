use Rattle.hhbc_semantics.proofs.NeverSticks.{never_sticks}
use Rattle.hhbc_semantics.proofs.laws.never_sticks.Goals as goal

pub returns : goal.returns
returns c = never_sticks
