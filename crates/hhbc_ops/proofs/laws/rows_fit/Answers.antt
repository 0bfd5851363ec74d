use Rattle.hhbc_ops.proofs.Rows.{rows_fit}
use Rattle.hhbc_ops.proofs.laws.rows_fit.Goals as goal

pub returns : goal.returns
returns c = rows_fit
