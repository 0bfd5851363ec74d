use Rattle.func_analyze.proofs.SecondForm.{bare_chain_annotates}
use Rattle.func_analyze.proofs.laws.bare_chain_annotates.Goals as goal

pub returns : goal.returns
returns c = bare_chain_annotates
