use Rattle.std.proofs.Common.{drop}
use Rattle.hhbc_repo.specs.LabelTables.{Seen}
use Rattle.hhbc_repo.proofs.scope.numbered_labels.Given as goal

abbrev pub invariant-loop-item : goal.invariant-loop-item
invariant-loop-item l = Seen l.labels l.here (drop l.item-index l.items) l.items
