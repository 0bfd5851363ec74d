use Rattle.std.proofs.Common.{◌≡◌, drop}
use Rattle.hack_values.specs.Objects.{no_object_in}
use Rattle.hack_values.specs.Val.{from_list}
use Rattle.hack_values.specs.View.{vals_of}
use Rattle.hack_values.proofs.+objects.Given as goal

abbrev pub invariant-objects::hold_object-loop-cell : goal.invariant-objects::hold_object-loop-cell
invariant-objects::hold_object-loop-cell l = no_object_in (from_list (vals_of (drop l.cell-index l.cells))) ≡ no_object_in (from_list (vals_of l.cells))
