-- Natives keep what is asked of their rows.
use Rattle.std.proofs.Common.{suc, zero, List, [], ◌∷◌, map, All, arith}
use Rattle.native_table.specs.Rows.{IsTyped}
use Rattle.native_table.specs.Tables.{row_of}
use Rattle.native_table.specs.declared.native.Native.{Native}

pub typed-rows : {g m : _} (ns : List (Native g m)) → All IsTyped (map row_of ns)
typed-rows [] k d h = absurd (omega arith)
typed-rows (n ∷ ns) zero d h = record { initialised = n.is_initialised; classless = n.names_no_class; holds = n.holds_values }
typed-rows (n ∷ ns) (suc k) d h = typed-rows ns k d (omega arith)
