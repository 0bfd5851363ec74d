use Rattle.std.proofs.Common.{◌≡◌, ◌+◌, length, drop}
use Rattle.std.specs.List.{flat_map}
use Rattle.hhbc_repo.specs.LinkFaults.{places, method_places}
use Rattle.hhbc_repo.proofs.link_counts.count_bodies.Given as goal

abbrev pub invariant-loop-class : goal.invariant-loop-class
invariant-loop-class l =
    l.count + length (flat_map (method_places (record { functions = l.functions; classes = l.classes })) (drop l.class-index l.classes))
    ≡ length (places (record { functions = l.functions; classes = l.classes }))
