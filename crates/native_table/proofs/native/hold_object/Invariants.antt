use Rattle.std.proofs.Common.{◌≡◌, drop}
use Rattle.native_table.specs.Answers.{no_objects}
use Rattle.native_table.proofs.native.hold_object.Given as goal

abbrev pub invariant-loop-cell : goal.invariant-loop-cell
invariant-loop-cell l = no_objects (drop l.cell-index l.cells) ≡ no_objects l.cells
