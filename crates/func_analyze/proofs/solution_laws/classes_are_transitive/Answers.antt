use Rattle.func_analyze.proofs.ClassChains.{classes_are_transitive}
use Rattle.func_analyze.proofs.solution_laws.classes_are_transitive.Goals as goal

pub returns : goal.returns
returns c = classes_are_transitive
