use Rattle.std.proofs.Common.{◌≡◌, [], length}
use Rattle.std.specs.List.{fold}
use Rattle.std.specs.Vec.Iter.{into_iter_items, into_iter_len}
use Rattle.hack_values.specs.Keys.{with_key}
use Rattle.hack_values.proofs.keyset_val.KeysetVal.put_all.Given as goal

abbrev pub invariant-loop-key : goal.invariant-loop-key
invariant-loop-key l = record {
  put : fold with_key l.made (into_iter_items l.key-iterator) ≡ fold with_key [] (into_iter_items l.initial.key-iterator);
  len : into_iter_len l.key-iterator ≡ length (into_iter_items l.key-iterator);
}
