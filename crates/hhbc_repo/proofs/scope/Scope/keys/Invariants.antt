use Rattle.std.proofs.Common.{◌≡◌, ◌++◌, drop, map}
use Rattle.std.specs.List.{flat_map}
use Rattle.hhbc_repo.specs.LinkFaults.{key_faults}
use Rattle.hhbc_repo.specs.Resolved.{resolved_key}
use Rattle.hhbc_repo.proofs.scope.Scope.keys.Given as goal

abbrev pub invariant-loop-key : goal.invariant-loop-key
invariant-loop-key l =
    (flat_map (key_faults l.self) l.keys ≡ flat_map (key_faults l.self) (drop l.key-index l.keys))
    × (l.linked ++ map (resolved_key l.self.body) (drop l.key-index l.keys) ≡ map (resolved_key l.self.body) l.keys)
