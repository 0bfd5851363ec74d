use Rattle.native_table.proofs.TypedRows.{typed-rows}
use Rattle.native_table.specs.Tables.{natives_of}
use Rattle.native_table.proofs.table.NativeTable.is_typed.Goals as goal

pub returns : goal.returns
returns g c = typed-rows (natives_of c.args.self.now)
