use Rattle.std.proofs.Common.{◌≡◌, map, take}
use Rattle.hhbc_repo.specs.Bodies.{bodies}
use Rattle.stack_verify.specs.Verified.{FirstType}
use Rattle.stack_verify.specs.Walk.{kept_of}
use Rattle.stack_verify.proofs.verified.shapes_of.Given as goal

abbrev pub invariant-loop-number : goal.invariant-loop-number
invariant-loop-number l = record {
  given : l.all ≡ map kept_of (take l.number (bodies l.repo));
  types : FirstType l.repo l.number;
}
