use Rattle.std.proofs.Common.{◌≡◌, drop}
use Rattle.hhbc_repo.specs.Shapes.{all_within}
use Rattle.stack_verify.proofs.checks.are_within.Given as goal

abbrev pub invariant-loop-slot : goal.invariant-loop-slot
invariant-loop-slot l = all_within l.slots l.depth ≡ all_within (drop l.slot-index l.slots) l.depth
