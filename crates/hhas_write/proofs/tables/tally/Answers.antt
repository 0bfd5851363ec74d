use Rattle.std.proofs.Common.{arith, ap, refl, slice_index, Vec, Global, ℕ}
use Rattle.hhas_write.proofs.Counted.{tallied_few, tallied_here, tallied_not_here}
use Rattle.hhas_write.proofs.tables.tally.Goals.{then-place-size, else-place-size}
use Rattle.hhas_write.proofs.tables.tally.Goals as goal

pub overflow_add-index_mut : goal.overflow_add-index_mut
overflow_add-index_mut c =
    let few = tallied_few c.args.size (slice_index c.args.numbers.now c.loop-number.number-index) c.loop-number.number-index c.index_mut.result.now c.args.numbers.now c.loop-number.counts.items
    c.loop-number.invariant c.loop-number-test.true c.if-place-size.true c.index_mut.ensures.value in omega arith

pub loop-number-preserved : goal.loop-number-preserved
loop-number-preserved c =
    let i = c.loop-number.number-index in
    let numbers = c.args.numbers.now in
    let old = c.loop-number.counts in
    let new = c.if-place-size.counts in
    elim c.if-place-size.branch [
      | then-place-size w ↦ tallied_here c.args.size (slice_index numbers i) i w.index_mut.result.now numbers old.items new.items
          c.loop-number.invariant c.loop-number-test.true w.if-place-size.true w.index_mut.ensures.value refl (ap (λ (v : Vec ℕ Global). v.items) w.counts-is)
      | else-place-size w ↦ tallied_not_here c.args.size (slice_index numbers i) i numbers old.items new.items
          c.loop-number.invariant c.loop-number-test.true w.if-place-size.false refl (ap (λ (v : Vec ℕ Global). v.items) w.counts-is)
    ]
