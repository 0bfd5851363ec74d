use Rattle.std.proofs.Common.{◌≡◌, ◌++◌, length}
use Rattle.hhbc_repo.proofs.regions.listed.Given as goal

abbrev pub invariant-loop-region : goal.invariant-loop-region
invariant-loop-region l = l.all ++ l.stack ≡ l.fn.stack

abbrev pub decreases-loop-region : goal.decreases-loop-region
decreases-loop-region l = length l.stack
