use Rattle.std.proofs.Common.{◌≡◌, ◌∷◌, [], replicate, length}
use Rattle.hhbc_repo.specs.LookUps.{total}
use Rattle.hhbc_repo.proofs.members.built_in.Given as goal

abbrev pub invariant-loop : goal.invariant-loop
invariant-loop l = (l.members ≡ record { first = l.first; names = l.fn.names ∷ replicate l.counter [] }) × (total l.members.names ≡ length l.fn.names)
