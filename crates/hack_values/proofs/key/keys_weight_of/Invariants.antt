use Rattle.std.proofs.Common.{◌≡◌, ◌+◌, ◌^◌, ◌<◌, drop}
use Rattle.hack_values.specs.Keys.{capped, keys_weight}
use Rattle.hack_values.proofs.key.keys_weight_of.Given as goal

abbrev pub invariant-loop-key : goal.invariant-loop-key
invariant-loop-key l = record {
  told : capped (l.sum + keys_weight (drop l.key-index l.keys)) ≡ capped (l.fn.from + keys_weight l.keys);
  small : l.sum < 2 ^ 32;
}
