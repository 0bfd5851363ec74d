use Rattle.std.proofs.Common.{◌≡◌, replicate, false}
use Rattle.stack_verify.proofs.known.all_false.Given as goal

abbrev pub invariant-loop : goal.invariant-loop
invariant-loop l = l.all.items ≡ replicate l.counter false
