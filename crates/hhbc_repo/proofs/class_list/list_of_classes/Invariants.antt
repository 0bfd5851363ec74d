use Rattle.std.proofs.Common.{◌≡◌, ◌++◌, drop}
use Rattle.hhbc_repo.specs.Bodies.{built_in_names}
use Rattle.hhbc_repo.specs.LookUps.{names_of_classes}
use Rattle.hhbc_repo.proofs.class_list.list_of_classes.Given as goal

abbrev pub invariant-loop-class : goal.invariant-loop-class
invariant-loop-class l = l.names ++ names_of_classes (drop l.class-index l.classes) ≡ built_in_names ++ names_of_classes l.classes
