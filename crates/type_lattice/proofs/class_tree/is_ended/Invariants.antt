use Rattle.std.proofs.Common.{◌≡◌, length, ◌-◌}
use Rattle.type_lattice.specs.Walks.{ends}
use Rattle.type_lattice.proofs.class_tree.is_ended.Given as goal

abbrev pub invariant-loop : goal.invariant-loop
invariant-loop l = ends (length l.parents) l.parents l.class ≡ ends (length l.parents - l.counter) l.parents l.at
