use Rattle.std.proofs.Common.{◌≡◌, take, filter}
use Rattle.class_index.specs.Reached.{is_met}
use Rattle.class_index.proofs.entered.targets.Given as goal

abbrev pub invariant-loop-body : goal.invariant-loop-body
invariant-loop-body l = l.entered ≡ filter (is_met l.fn.repo l.fn.receiver l.fn.name l.fn.count) (take l.body-index l.body-items)
