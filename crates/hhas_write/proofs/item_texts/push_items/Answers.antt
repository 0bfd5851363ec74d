use Rattle.std.proofs.Common.{ap, length}
use Rattle.std.proofs.lemmas.Result.{on_ok_weaker}
use Rattle.hhas_write.proofs.Turning.{all_written}
use Rattle.hhas_write.proofs.item_texts.push_items.Goals as goal

pub returns : goal.returns
returns c =
    on_ok_weaker c.push_before-2.result
    (λ w. all_written c.args.scope.now.classes c.args.scope.now.body c.loop-place.place (length c.positions-positions.result.now) _ c.loop-place.out c.push_before-2.new.out c.loop-place.inner
    c.push_before-2.new.depth c.loop-place.invariant (ap length c.positions-positions.ensures) c.loop-place.auto.place-end c.loop-place-test.false w)
    c.push_before-2.ensures
