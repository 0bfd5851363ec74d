use Rattle.std.proofs.Common.{◌≡◌, ◌++◌, drop}
use Rattle.std.specs.List.{flat_map}
use Rattle.hhbc_repo.specs.LinkFaults.{position_faults, position_in}
use Rattle.hhbc_repo.specs.Resolved.{resolved_item}
use Rattle.hhbc_repo.proofs.scope.Scope.positions_among.Given as goal

abbrev pub invariant-loop-item : goal.invariant-loop-item
invariant-loop-item l =
    (flat_map (position_faults l.self) (flat_map position_in l.items) ≡ flat_map (position_faults l.self) (flat_map position_in (drop l.item-index l.items)))
    × (l.linked ++ flat_map (resolved_item l.self.whole l.self.body) (drop l.item-index l.items) ≡ flat_map (resolved_item l.self.whole l.self.body) l.items)
