use Rattle.std.proofs.Common.{◌≡◌, drop}
use Rattle.stack_verify.specs.Kept.{bits_of}
use Rattle.stack_verify.proofs.known.bits.Given as goal

abbrev pub invariant-loop-at : goal.invariant-loop-at
invariant-loop-at l = l.bits ≡ bits_of (drop l.at l.live)
