use Rattle.std.proofs.Common.{◌≡◌, take}
use Rattle.stack_verify.proofs.known.copied.Given as goal

abbrev pub invariant-loop-item : goal.invariant-loop-item
invariant-loop-item g l = l.all.items ≡ take l.item-index l.items
