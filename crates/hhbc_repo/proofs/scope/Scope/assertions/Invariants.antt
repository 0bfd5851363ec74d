use Rattle.std.proofs.Common.{◌≡◌, ◌++◌, drop, map}
use Rattle.std.specs.List.{flat_map}
use Rattle.hhbc_repo.specs.LinkFaults.{assert_faults}
use Rattle.hhbc_repo.specs.Resolved.{resolved_assert}
use Rattle.hhbc_repo.proofs.scope.Scope.assertions.Given as goal

abbrev pub invariant-loop-parts : goal.invariant-loop-parts
invariant-loop-parts l =
    (flat_map (assert_faults l.self) l.asserts ≡ flat_map (assert_faults l.self) (drop l.parts-index l.asserts))
    × (l.linked ++ map (resolved_assert l.self.whole l.self.body) (drop l.parts-index l.asserts) ≡ map (resolved_assert l.self.whole l.self.body) l.asserts)
