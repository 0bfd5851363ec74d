use Rattle.hhbc_semantics.proofs.TestedRuns.{tests_only_stop}
use Rattle.hhbc_semantics.proofs.soundness.tests_only_stop.Goals as goal

pub returns : goal.returns
returns c = tests_only_stop
