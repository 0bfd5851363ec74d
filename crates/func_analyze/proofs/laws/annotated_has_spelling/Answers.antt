use Rattle.hhbc_repo.proofs.ClaimsKept.{claims_kept}
use Rattle.func_analyze.proofs.SpellingKept.{spelling_kept}
use Rattle.func_analyze.proofs.laws.annotated_has_spelling.Goals as goal

pub returns : goal.returns
returns c = spelling_kept claims_kept
