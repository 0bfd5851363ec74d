use Rattle.std.proofs.Common.{◌≡◌, ◌+◌, drop}
use Rattle.hhbc_repo.specs.Bodies.{bodies}
use Rattle.hhbbc_top.specs.Counts.{position_count}
use Rattle.hhbbc_top.proofs.counts.positions_of.Given as goal

abbrev pub invariant-loop-number : goal.invariant-loop-number
invariant-loop-number l = l.count + position_count (drop l.number (bodies l.repo)) ≡ position_count (bodies l.repo)
