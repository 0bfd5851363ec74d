use Rattle.std.proofs.Common.{◌≡◌, drop}
use Rattle.hhbc_repo.specs.Shapes.{all_cells}
use Rattle.stack_verify.proofs.checks.are_cells.Given as goal

abbrev pub invariant-loop-slot : goal.invariant-loop-slot
invariant-loop-slot l = all_cells l.slots l.stack ≡ all_cells (drop l.slot-index l.slots) l.stack
