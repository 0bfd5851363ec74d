use Rattle.std.proofs.Common.{◌≡◌, drop, false, replicate}
use Rattle.stack_verify.proofs.Catches.{marked_all}
use Rattle.stack_verify.proofs.walk.catches.Given as goal

abbrev pub invariant-loop-region : goal.invariant-loop-region
invariant-loop-region l = marked_all (drop l.region-index l.fn.body.regions) l.catches.items ≡ marked_all l.fn.body.regions (replicate l.count false)
