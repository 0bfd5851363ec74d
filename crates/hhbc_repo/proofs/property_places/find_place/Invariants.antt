use Rattle.std.proofs.Common.{◌≡◌, ◌≤◌, ◌+◌, ◌++◌, IfSome, None, length}
use Rattle.type_lattice.specs.Classes.{chain}
use Rattle.hhbc_repo.specs.Bodies.{built_in_tree}
use Rattle.hhbc_repo.specs.LookUps.{parents_of_classes, total}
use Rattle.hhbc_repo.specs.Places.{place_up}
use Rattle.hhbc_repo.proofs.Placed.{sums}
use Rattle.hhbc_repo.proofs.property_places.find_place.Given as goal

abbrev pub invariant-loop-found : goal.invariant-loop-found
invariant-loop-found l =
    (place_up l.properties.names l.name l.found (chain (built_in_tree ++ parents_of_classes l.classes) l.at)
    ≡ place_up l.properties.names l.name None (chain (built_in_tree ++ parents_of_classes l.classes) l.class))
    × IfSome l.found (λ p. p + sums l.properties.names (chain (built_in_tree ++ parents_of_classes l.classes) l.at) ≤ total l.properties.names)

abbrev pub decreases-loop-found : goal.decreases-loop-found
decreases-loop-found l = length (chain (built_in_tree ++ parents_of_classes l.classes) l.at)
