use Rattle.std.proofs.Common.{◌≡◌, ◌++◌, take}
use Rattle.std.specs.List.{flat_map}
use Rattle.hhbc_repo.specs.Codes.{key_slots}
use Rattle.stack_verify.proofs.slots.push_key_slots.Given as goal

abbrev pub invariant-loop-key : goal.invariant-loop-key
invariant-loop-key l = l.slots.items ≡ l.fn.slots.items ++ flat_map key_slots (take l.key-index l.keys)
