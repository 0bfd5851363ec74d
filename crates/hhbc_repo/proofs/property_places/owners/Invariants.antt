use Rattle.std.proofs.Common.{◌≡◌, ◌++◌, drop}
use Rattle.hhbc_repo.specs.LookUps.{property_owners_from}
use Rattle.hhbc_repo.specs.Members.{names_of}
use Rattle.hhbc_repo.proofs.property_places.owners.Given as goal

abbrev pub invariant-loop-row : goal.invariant-loop-row
invariant-loop-row l =
    (l.class ≡ l.row-index)
    × (l.all ++ property_owners_from l.class (names_of (drop l.row-index l.row-items)) ≡ property_owners_from 0 (names_of l.row-items))
