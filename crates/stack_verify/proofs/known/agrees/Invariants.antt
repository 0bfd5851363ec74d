use Rattle.std.proofs.Common.{◌≡◌, drop, length}
use Rattle.hhbc_repo.specs.Shapes.{agree}
use Rattle.stack_verify.proofs.known.agrees.Given as goal

abbrev pub invariant-loop-this : goal.invariant-loop-this
invariant-loop-this l = agree l.these l.those ≡ agree (drop (length l.yielded) l.these) (drop (length l.yielded) l.those)
