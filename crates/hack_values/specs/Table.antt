-- A table of keys that is made with the first of them.
use Rattle.std.specs.Prelude.{List, [], Option, Some, None, Box}
use Rattle.std.specs.Global.{Global}
use Rattle.indexmap.specs.IndexSet.{IndexSet}
use Rattle.hack_values.specs.declared.key.Key.{Key}

abbrev pub keys_in : {S : Type 0} → Option (Box (IndexSet Key S) Global) → List Key
keys_in None = []
keys_in (Some table) = table.value.keys
