-- An element is smaller than its container, so recursion over a cell ends.
use Rattle.std.specs.Prelude.{◌≡◌, ◌≤◌, List, [], ◌∷◌, map, length}
use Rattle.std.specs.List.{zip}
use Rattle.std.proofs.Common.{arith}
use denote.Param.Weighed.{most}
use Rattle.hack_values.specs.declared.cell.Cell.{Cell}
use Rattle.hack_values.specs.declared.cell.Cell.TheVariants as cell
use Rattle.hack_values.specs.declared.cell.DictVal.TheDeep.{deep-Cell}
use Rattle.hack_values.specs.declared.key.Key.{Key}
use Rattle.hack_values.specs.Val.{depth, depths, entry_depths, vals_depth-from_list, pairs_depth-from_pairs}
use Rattle.hack_values.specs.View.{val_of}

deep_le : (c : Cell) → deep-Cell c ≤ depth (val_of c)
deep_le cell.Null = omega arith
deep_le (cell.Bool b) = omega arith
deep_le (cell.Int i) = omega arith
deep_le (cell.Str s) = omega arith
deep_le (cell.Vec vs) = omega (arith, vals_depth-from_list vs)
deep_le (cell.Dict es) = omega (arith, pairs_depth-from_pairs es)
deep_le (cell.Keyset ks) = omega arith
deep_le (cell.Obj n) = omega arith

pub most_le : (cs : List Cell) → most deep-Cell cs ≤ depths (map val_of cs)
most_le [] = omega arith
most_le (c ∷ cs) = omega (arith, deep_le c, most_le cs)

pub most_le-entries : (ks : List Key) (cs : List Cell) → length cs ≡ length ks → most deep-Cell cs ≤ entry_depths (zip ks (map val_of cs))
most_le-entries [] [] e = omega arith
most_le-entries [] (c ∷ cs) e = absurd (omega arith)
most_le-entries (k ∷ ks) [] e = absurd (omega arith)
most_le-entries (k ∷ ks) (c ∷ cs) e = omega (arith, deep_le c, most_le-entries ks cs (omega arith))
