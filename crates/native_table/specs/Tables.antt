-- The natives of a table, and natives as rows.
use Rattle.std.specs.Prelude.{List, map}
use Rattle.indexmap.specs.IndexMap.{values}
use Rattle.native_table.specs.Rows.{NativeRow}
use Rattle.native_table.specs.declared.native.Native.{Native}
use Rattle.native_table.specs.declared.table.NativeTable.{NativeTable}

abbrev pub row_of : {g m : _} → Native g m → NativeRow
row_of n = record { name = n.name; arity = n.arity; answers = n.answer }

abbrev pub natives_of : {g m : _} → NativeTable g m → List (Native g m)
natives_of t = values t.natives

abbrev pub rows_of : {g m : _} → NativeTable g m → List NativeRow
rows_of t = map row_of (natives_of t)
