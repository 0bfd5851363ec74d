use Rattle.type_lattice.specs.Walks.{AllEnded}
use Rattle.type_lattice.proofs.class_tree.are_ended.Given as goal

abbrev pub invariant-loop-class : goal.invariant-loop-class
invariant-loop-class l = AllEnded l.parents l.class
