use Rattle.std.proofs.Common.{◌≡◌, ◌+◌, ◌^◌, ◌<◌, drop, max}
use Rattle.hack_values.specs.Keys.{capped}
use Rattle.hack_values.specs.Val.{depths}
use Rattle.hack_values.specs.View.{vals_of}
use Rattle.hack_values.proofs.cell.+depth.Given as goal

abbrev pub decreases-Cell::depth : goal.decreases-Cell::depth
decreases-Cell::depth l = goal.size-Cell::depth l

abbrev pub decreases-VecVal::depth : goal.decreases-VecVal::depth
decreases-VecVal::depth l = goal.size-VecVal::depth l

abbrev pub decreases-DictVal::depth : goal.decreases-DictVal::depth
decreases-DictVal::depth l = goal.size-DictVal::depth l

abbrev pub invariant-VecVal::depth-loop-cell : goal.invariant-VecVal::depth-loop-cell
invariant-VecVal::depth-loop-cell l = record {
  told : capped (1 + max l.most (depths (vals_of (drop l.cell-index l.cell-items)))) ≡ capped (1 + depths (vals_of l.cell-items));
  small : l.most < 2 ^ 32;
}

abbrev pub invariant-DictVal::depth-loop-cell : goal.invariant-DictVal::depth-loop-cell
invariant-DictVal::depth-loop-cell l = record {
  told : capped (1 + max l.most (depths (vals_of (drop l.cell-index l.cell-items)))) ≡ capped (1 + depths (vals_of l.cell-items));
  small : l.most < 2 ^ 32;
}
