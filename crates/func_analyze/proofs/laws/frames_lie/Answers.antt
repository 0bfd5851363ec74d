use Rattle.func_analyze.proofs.FactsTrue.{frames_lie}
use Rattle.func_analyze.proofs.laws.frames_lie.Goals as goal

pub returns : goal.returns
returns c = frames_lie
