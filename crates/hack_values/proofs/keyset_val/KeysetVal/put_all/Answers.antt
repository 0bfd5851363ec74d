use Rattle.std.proofs.Common.{[], ap, ◌∙◌}
use Rattle.std.specs.List.{fold}
use Rattle.std.specs.Vec.Iter.{into_iter_items}
use Rattle.hack_values.specs.Keys.{with_key, keys_put}
use Rattle.hack_values.proofs.Folds.{fold_goes, fold_ends, fewer_left, none_left}
use Rattle.hack_values.proofs.keyset_val.KeysetVal.put_all.Goals as goal

pub loop-key-preserved : goal.loop-key-preserved
loop-key-preserved c =
    let l = c.loop-key in
    let x = c.in-Some in
    record {
      put = fold_goes with_key (fold with_key [] (into_iter_items c.into_iter-key-iterator.result)) l.made c.put.new.self (into_iter_items l.key-iterator) (into_iter_items c.next.new.self) x.key x.ensures.steps.0 l.invariant.put c.in_ok-put.ensures.ok;
      len = fewer_left (into_iter_items l.key-iterator) (into_iter_items c.next.new.self) x.key _ _ x.ensures.steps.0 x.ensures.steps.1 l.invariant.len;
    }

pub returns : goal.returns
returns c =
    let l = c.loop-key in
    let none = none_left (into_iter_items l.key-iterator) _ c.in-None.ensures.steps.0 l.invariant.len in
    fold_ends with_key (fold with_key [] (into_iter_items c.into_iter-key-iterator.result)) l.made (into_iter_items l.key-iterator) none l.invariant.put
    ∙ ap keys_put c.into_iter-key-iterator.ensures.into_iter_gives.0
