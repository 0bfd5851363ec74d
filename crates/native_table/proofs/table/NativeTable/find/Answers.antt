use Rattle.std.proofs.Common.{◌∙◌, ap, option_map}
use Rattle.native_table.proofs.Found.{lookup-named, named-map}
use Rattle.native_table.specs.Tables.{row_of, natives_of}
use Rattle.native_table.proofs.table.NativeTable.find.Goals as goal

pub returns-clause-native : goal.returns-clause-native
returns-clause-native g c = c.get.ensures.value ∙ lookup-named (λ n. n.name) c.args.name.now c.args.self.now.natives.entries c.args.self.now.keyed

pub returns-clause-row : goal.returns-clause-row
returns-clause-row g c = ap (option_map row_of) (returns-clause-native g c) ∙ named-map row_of (λ row. row.name) c.args.name.now (natives_of c.args.self.now)
