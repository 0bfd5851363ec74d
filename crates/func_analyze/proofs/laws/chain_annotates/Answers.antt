use Rattle.func_analyze.proofs.ChainAnnotated.{chain_annotates}
use Rattle.func_analyze.proofs.laws.chain_annotates.Goals as goal

pub returns : goal.returns
returns c = chain_annotates
