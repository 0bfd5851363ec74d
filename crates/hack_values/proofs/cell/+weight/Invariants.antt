use Rattle.std.proofs.Common.{◌≡◌, ◌+◌, ◌^◌, ◌<◌, drop}
use Rattle.hack_values.specs.Keys.{capped}
use Rattle.hack_values.specs.Val.{weights}
use Rattle.hack_values.specs.View.{vals_of}
use Rattle.hack_values.proofs.cell.+weight.Given as goal

abbrev pub decreases-Cell::weight : goal.decreases-Cell::weight
decreases-Cell::weight l = goal.size-Cell::weight l

abbrev pub decreases-VecVal::weight : goal.decreases-VecVal::weight
decreases-VecVal::weight l = goal.size-VecVal::weight l

abbrev pub decreases-DictVal::weight : goal.decreases-DictVal::weight
decreases-DictVal::weight l = goal.size-DictVal::weight l

abbrev pub invariant-VecVal::weight-loop-cell : goal.invariant-VecVal::weight-loop-cell
invariant-VecVal::weight-loop-cell l = record {
  told : capped (l.sum + weights (vals_of (drop l.cell-index l.cell-items))) ≡ capped (1 + weights (vals_of l.cell-items));
  small : l.sum < 2 ^ 32;
}

abbrev pub invariant-DictVal::weight-loop-cell : goal.invariant-DictVal::weight-loop-cell
invariant-DictVal::weight-loop-cell l = record {
  told : capped (l.sum + weights (vals_of (drop l.cell-index l.cell-items))) ≡ capped (l.initial.sum + weights (vals_of l.cell-items));
  small : l.sum < 2 ^ 32;
}
