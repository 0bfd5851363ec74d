use Rattle.std.proofs.Common.{◌≡◌, ◌≤◌, ◌+◌, length, drop}
use Rattle.std.specs.List.{flat_map}
use Rattle.hhbc_repo.specs.LinkFaults.{position_in}
use Rattle.hhbc_repo.proofs.nesting.count_positions.Given as goal

abbrev pub invariant-loop-item : goal.invariant-loop-item
invariant-loop-item l = (l.count ≤ l.item-index) × (l.count + length (flat_map position_in (drop l.item-index l.items)) ≡ length (flat_map position_in l.items))
