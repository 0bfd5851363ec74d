use Rattle.std.proofs.Common.{◌≡◌, ◌∷◌, [], replicate}
use Rattle.hhbc_repo.proofs.known.built_in_tables.Given as goal

abbrev pub invariant-loop : goal.invariant-loop
invariant-loop l = l.all ≡ l.fn.first ∷ replicate l.counter []
