use Rattle.func_analyze.proofs.ChainAnnotated.{chain_is_least}
use Rattle.func_analyze.proofs.laws.chain_is_least.Goals as goal

pub returns : goal.returns
returns c = chain_is_least
