use Rattle.std.proofs.Common.{◌≡◌, ◌<◌, ◌+◌, ◌^◌, ◌++◌, drop, length}
use Rattle.hhbc_repo.specs.Homes.{homes_from, homes_of}
use Rattle.hhbc_repo.specs.LookUps.{methods_in}
use Rattle.hhbc_repo.proofs.homes.homes.Given as goal

abbrev pub invariant-loop-class : goal.invariant-loop-class
invariant-loop-class l =
    (l.number ≡ 6 + l.class-index)
    × (l.all ++ homes_from l.number (drop l.class-index l.classes) ≡ homes_of l.functions l.classes)
    × (length (methods_in (drop l.class-index l.classes)) < 2 ^ 32)
