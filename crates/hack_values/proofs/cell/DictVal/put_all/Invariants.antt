use Rattle.std.proofs.Common.{◌≡◌, [], length}
use Rattle.std.specs.List.{fold}
use Rattle.std.specs.Vec.Iter.{into_iter_items, into_iter_len}
use Rattle.hack_values.specs.Keys.{put_pair}
use Rattle.hack_values.specs.View.{pairs_of}
use Rattle.hack_values.proofs.cell.DictVal.put_all.Given as goal

abbrev pub invariant-loop-key : goal.invariant-loop-key
invariant-loop-key l = record {
  put : fold put_pair l.made (pairs_of (into_iter_items l.key-iterator)) ≡ fold put_pair [] (pairs_of (into_iter_items l.initial.key-iterator));
  len : into_iter_len l.key-iterator ≡ length (into_iter_items l.key-iterator);
}
