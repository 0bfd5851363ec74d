use Rattle.std.proofs.Common.{◌≡◌, replicate}
use Rattle.type_lattice.specs.Types.{cell}
use Rattle.class_index.proofs.facts.cells.Given as goal

abbrev pub invariant-loop : goal.invariant-loop
invariant-loop l = l.types ≡ replicate l.counter cell
