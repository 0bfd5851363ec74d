use Rattle.std.proofs.Common.{◌≡◌, ◌++◌, drop}
use Rattle.std.specs.List.{zip}
use Rattle.hack_values.specs.Show.{show_vals, show_pairs}
use Rattle.hack_values.specs.Val.{from_list, from_pairs}
use Rattle.hack_values.specs.View.{vals_of}
use Rattle.hack_values.proofs.Listing.{rest_of}
use Rattle.hack_values.proofs.display.+show.Given as goal

abbrev pub decreases-show_cell : goal.decreases-show_cell
decreases-show_cell l = goal.size-show_cell l

abbrev pub decreases-show_vec : goal.decreases-show_vec
decreases-show_vec l = goal.size-show_vec l

abbrev pub decreases-show_dict : goal.decreases-show_dict
decreases-show_dict l = goal.size-show_dict l

abbrev pub invariant-show_vec-loop-cell : goal.invariant-show_vec-loop-cell
invariant-show_vec-loop-cell l =
    l.out ++ rest_of l.first (show_vals (from_list (vals_of (drop l.cell-index l.cell-items))))
    ≡ l.initial.out ++ rest_of l.initial.first (show_vals (from_list (vals_of l.cell-items)))

abbrev pub invariant-show_dict-loop-at : goal.invariant-show_dict-loop-at
invariant-show_dict-loop-at l =
    l.out ++ rest_of l.first (show_pairs (from_pairs (zip (drop l.at l.entries-inside.keys) (vals_of (drop l.at l.entries-inside.vals.items)))))
    ≡ l.initial.out ++ rest_of l.initial.first (show_pairs (from_pairs (zip l.entries-inside.keys (vals_of l.entries-inside.vals.items))))
