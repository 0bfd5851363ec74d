use Rattle.std.proofs.Common.{◌≡◌, take}
use Rattle.hhbc_repo.specs.FirstNumbers.{Finds}
use Rattle.hhbc_repo.proofs.listed.places_of.Given as goal

abbrev pub invariant-loop-name : goal.invariant-loop-name
invariant-loop-name l = (l.number ≡ l.name-index) × Finds l.numbers (take l.name-index l.names)
