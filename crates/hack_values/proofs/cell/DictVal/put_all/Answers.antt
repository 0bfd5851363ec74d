use Rattle.std.proofs.Common.{[], ap, ◌∙◌}
use Rattle.std.specs.List.{fold}
use Rattle.std.specs.Vec.Iter.{into_iter_items}
use Rattle.hack_values.specs.Keys.{put_pair, entries_put}
use Rattle.hack_values.specs.View.{val_of, pairs_of}
use Rattle.hack_values.proofs.Folds.{fold_goes, fold_ends, fewer_left, none_left}
use Rattle.hack_values.proofs.cell.DictVal.put_all.Goals as goal

pub loop-key-preserved : goal.loop-key-preserved
loop-key-preserved c =
    let l = c.loop-key in
    let x = c.in-Some in
    record {
      put = fold_goes put_pair (fold put_pair [] (pairs_of (into_iter_items c.into_iter-key-iterator.result))) l.made c.put.new.self (pairs_of (into_iter_items l.key-iterator)) (pairs_of (into_iter_items c.next.new.self)) (x.key, val_of x.value) (ap pairs_of x.ensures.steps.0) l.invariant.put c.in_ok-put.ensures.ok;
      len = fewer_left (into_iter_items l.key-iterator) (into_iter_items c.next.new.self) (x.key, x.value) _ _ x.ensures.steps.0 x.ensures.steps.1 l.invariant.len;
    }

pub returns : goal.returns
returns c =
    let l = c.loop-key in
    let none = none_left (into_iter_items l.key-iterator) _ c.in-None.ensures.steps.0 l.invariant.len in
    fold_ends put_pair (fold put_pair [] (pairs_of (into_iter_items c.into_iter-key-iterator.result))) l.made (pairs_of (into_iter_items l.key-iterator)) (ap pairs_of none) l.invariant.put
    ∙ ap (λ es. entries_put (pairs_of es)) c.into_iter-key-iterator.ensures.into_iter_gives.0
