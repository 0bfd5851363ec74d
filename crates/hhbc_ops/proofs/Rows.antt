-- What each row of the table keeps to.
use Rattle.std.proofs.Common.{refl, arith}
use Rattle.hhbc_ops.specs.declared.op.Op.TheVariants as ops
use Rattle.hhbc_ops.specs.Laws.{RowsFit}

pub rows_fit : RowsFit
rows_fit ops.Nop = record { operand = refl; pops = refl; few = omega arith }
rows_fit _ = record { operand = refl; pops = refl; few = omega arith }
