use Rattle.std.proofs.Common.{◌≡◌, drop}
use Rattle.stack_verify.specs.Effects.{only_cells}
use Rattle.stack_verify.proofs.checks.are_only_cells.Given as goal

abbrev pub invariant-loop-flavour : goal.invariant-loop-flavour
invariant-loop-flavour l = only_cells (drop l.flavour-index l.stack) ≡ only_cells l.stack
