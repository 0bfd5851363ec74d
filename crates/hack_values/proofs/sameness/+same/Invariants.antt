use Rattle.std.proofs.Common.{◌≡◌, take}
use Rattle.hack_values.proofs.sameness.+same.Given as goal

abbrev pub invariant-same_cells-loop-at : goal.invariant-same_cells-loop-at
invariant-same_cells-loop-at l = take l.at l.a ≡ take l.at l.b
