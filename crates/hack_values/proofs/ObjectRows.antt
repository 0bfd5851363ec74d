-- Entries hold an object exactly where their values do.
use Rattle.std.proofs.Common.{◌≡◌, List, [], ◌∷◌, ◌&&◌, length, refl, ap, arith}
use Rattle.std.specs.List.{zip}
use Rattle.hack_values.specs.declared.cell.Cell.{Cell}
use Rattle.hack_values.specs.declared.key.Key.{Key}
use Rattle.hack_values.specs.Objects.{no_object, no_object_in, no_object_under}
use Rattle.hack_values.specs.Val.{from_list, from_pairs}
use Rattle.hack_values.specs.View.{val_of, vals_of}

pub objects-entries : (ks : List Key) (cs : List Cell) → length cs ≡ length ks → no_object_under (from_pairs (zip ks (vals_of cs))) ≡ no_object_in (from_list (vals_of cs))
objects-entries [] [] e = refl
objects-entries [] (c ∷ cs) e = absurd (omega arith)
objects-entries (k ∷ ks) [] e = absurd (omega arith)
objects-entries (k ∷ ks) (c ∷ cs) e = ap (λ b. no_object (val_of c) && b) (objects-entries ks cs (omega arith))

pub ruleset entry_objects = (objects-entries)
