use Rattle.std.proofs.Common.{◌≡◌, ◌≤◌, max, drop}
use Rattle.hhbc_repo.specs.LinkFaults.{nesting_from}
use Rattle.hhbc_repo.proofs.nesting.nesting.Given as goal

abbrev pub invariant-loop-item : goal.invariant-loop-item
invariant-loop-item l = (l.opened ≤ l.item-index) × (max l.most (nesting_from l.opened (drop l.item-index l.items)) ≡ nesting_from 0 l.items)
