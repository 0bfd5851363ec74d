use Rattle.std.proofs.Common.{◌≡◌, None, replicate}
use Rattle.stack_verify.proofs.walk.unknown.Given as goal

abbrev pub invariant-loop : goal.invariant-loop
invariant-loop g l = l.table.items ≡ replicate l.counter None
