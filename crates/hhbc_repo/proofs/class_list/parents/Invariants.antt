use Rattle.std.proofs.Common.{◌≡◌, ◌++◌, drop}
use Rattle.hhbc_repo.specs.Bodies.{built_in_tree}
use Rattle.hhbc_repo.specs.LookUps.{parents_of_classes}
use Rattle.hhbc_repo.proofs.class_list.parents.Given as goal

abbrev pub invariant-loop-class : goal.invariant-loop-class
invariant-loop-class l = l.all ++ parents_of_classes (drop l.class-index l.classes) ≡ built_in_tree ++ parents_of_classes l.classes
