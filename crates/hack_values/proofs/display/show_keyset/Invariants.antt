use Rattle.std.proofs.Common.{◌≡◌, ◌++◌, drop, map}
use Rattle.hack_values.specs.Show.{show_key}
use Rattle.hack_values.proofs.Listing.{rest_of}
use Rattle.hack_values.proofs.display.show_keyset.Given as goal

abbrev pub invariant-loop-key : goal.invariant-loop-key
invariant-loop-key l =
    l.out ++ rest_of l.first (map show_key (drop l.key-index l.key-items))
    ≡ l.initial.out ++ rest_of l.initial.first (map show_key l.key-items)
