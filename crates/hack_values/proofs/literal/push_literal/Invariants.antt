use Rattle.std.proofs.Common.{◌≡◌, ◌++◌, take}
use Rattle.std.specs.List.{flat_map}
use Rattle.hack_values.specs.Literal.{literal_byte}
use Rattle.hack_values.proofs.literal.push_literal.Given as goal

abbrev pub invariant-loop-byte : goal.invariant-loop-byte
invariant-loop-byte l = l.out ≡ l.initial.out ++ flat_map literal_byte (take l.byte-index l.bytes)
