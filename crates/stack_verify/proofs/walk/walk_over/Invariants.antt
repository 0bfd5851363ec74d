use Rattle.stack_verify.specs.Walk.{Walks}
use Rattle.stack_verify.proofs.walk.walk_over.Given as goal

abbrev pub invariant-loop-position : goal.invariant-loop-position
invariant-loop-position l = Walks l.body l.position l.walk
