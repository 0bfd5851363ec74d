use Rattle.std.proofs.Common.{◌≡◌, ◌^◌, ◌<◌, drop}
use Rattle.hack_values.specs.Casts.{number_after, within_u64}
use Rattle.hack_values.proofs.casts.parse_digits.Given as goal

abbrev pub invariant-loop-digit : goal.invariant-loop-digit
invariant-loop-digit l = record {
  told : within_u64 (number_after l.value (drop l.digit-index l.digits)) ≡ within_u64 (number_after 0 l.digits);
  small : l.value < 2 ^ 64;
}
