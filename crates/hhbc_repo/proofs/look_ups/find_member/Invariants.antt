use Rattle.std.proofs.Common.{◌≡◌, ◌++◌, length}
use Rattle.type_lattice.specs.Classes.{chain}
use Rattle.hhbc_repo.specs.Bodies.{built_in_tree}
use Rattle.hhbc_repo.specs.LookUps.{inherited, parents_of_classes}
use Rattle.hhbc_repo.proofs.look_ups.find_member.Given as goal

abbrev pub invariant-loop-number : goal.invariant-loop-number
invariant-loop-number l =
    inherited l.members.first l.members.names (built_in_tree ++ parents_of_classes l.classes) l.class l.name
    ≡ inherited l.members.first l.members.names (built_in_tree ++ parents_of_classes l.classes) l.at l.name

abbrev pub decreases-loop-number : goal.decreases-loop-number
decreases-loop-number l = length (chain (built_in_tree ++ parents_of_classes l.classes) l.at)
