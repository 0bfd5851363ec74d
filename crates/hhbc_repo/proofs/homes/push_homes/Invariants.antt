use Rattle.std.proofs.Common.{◌≡◌, ◌++◌, drop}
use Rattle.hhbc_repo.specs.Homes.{homes_at}
use Rattle.hhbc_repo.proofs.homes.push_homes.Given as goal

abbrev pub invariant-loop-body : goal.invariant-loop-body
invariant-loop-body l =
    (l.place ≡ l._body-index)
    × (l.homes ++ homes_at l.class l.place (drop l._body-index l.bodies) ≡ l.initial.homes ++ homes_at l.class 0 l.bodies)
