use Rattle.hhbc_repo.proofs.ClaimsKept.{claims_kept}
use Rattle.hhbc_repo.proofs.spelling.claims_leave_a_spelling.Goals as goal

pub returns : goal.returns
returns c = claims_kept
