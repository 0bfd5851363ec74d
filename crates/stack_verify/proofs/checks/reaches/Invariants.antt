use Rattle.std.proofs.Common.{◌≡◌, drop}
use Rattle.hhbc_repo.specs.Shapes.{reaches}
use Rattle.stack_verify.proofs.checks.reaches.Given as goal

abbrev pub invariant-loop-assert : goal.invariant-loop-assert
invariant-loop-assert l = reaches l.asserts l.depth ≡ reaches (drop l.assert-index l.asserts) l.depth
