use Rattle.std.proofs.Common.{◌≡◌, length, take, drop}
use Rattle.std.specs.List.{flat_map}
use Rattle.hhbc_repo.specs.LinkFaults.{position_in}
use Rattle.hhbc_repo.specs.RegionWalks.{Seen}
use Rattle.hhbc_repo.proofs.regions.regions.Given as goal

abbrev pub invariant-loop-at : goal.invariant-loop-at
invariant-loop-at l = record {
  seen : Seen l.walk (drop l.at l.items);
  here : l.walk.here ≡ length (flat_map position_in (take l.at l.items));
}
