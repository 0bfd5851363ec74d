use Rattle.std.proofs.Common.{◌≡◌, ◌++◌, replicate}
use Rattle.hhbc_repo.proofs.property_places.push_owner.Given as goal

abbrev pub invariant-loop : goal.invariant-loop
invariant-loop l = l.owners ≡ l.initial.owners ++ replicate l.counter l.class
