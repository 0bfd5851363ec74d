use Rattle.std.proofs.Common.{◌≡◌, take}
use Rattle.stack_verify.proofs.known.slots.Given as goal

abbrev pub invariant-loop-flavour : goal.invariant-loop-flavour
invariant-loop-flavour l = l.all ≡ take l.flavour-index l.stack
