use Rattle.std.proofs.Common.{◌≡◌, [], replicate}
use Rattle.hhbc_repo.proofs.known.built_in_methods.Given as goal

abbrev pub invariant-loop : goal.invariant-loop
invariant-loop l = l.all ≡ replicate l.counter []
