use Rattle.std.proofs.Common.{arith, ◌+◌, ap, sym, ◌∙◌, slice_index, Some, None}
use Rattle.hhas_write.proofs.Counted.{before_most, label_pushed, labels_told, numbered, unnamed}
use Rattle.hhas_write.proofs.tables.numbered.Goals.{then-count-eq0+in_ok-push, else-count-eq0+in_ok-push-2}
use Rattle.hhas_write.proofs.tables.numbered.Goals as goal

pub overflow_add-next : goal.overflow_add-next
overflow_add-next c =
    let b = before_most c.args.positions.now c.loop-count.count-index in let e = c.loop-count.invariant.next in omega arith

pub loop-count-preserved : goal.loop-count-preserved
loop-count-preserved c =
    let all = c.args.positions.now in
    let i = c.loop-count.count-index in
    let told = c.loop-count.invariant in
    let long = c.requires.long in
    let is = c.requires.at i c.loop-count-test.true in
    elim c.if-count-eq0.branch [
      | then-count-eq0+in_ok-push w ↦ let u = unnamed all i (slice_index c.args.counts.now i) is w.if-count-eq0.true in
          let l = label_pushed all c.loop-count.labels c.if-count-eq0.labels None i (w.labels-is ∙ w.in_ok-push.ensures.ok) told.long u.0 told.at in
          record { long = l.0; next = w.next-is ∙ (told.next ∙ sym u.1); at = l.1 }
      | else-count-eq0+in_ok-push-2 w ↦ let u = numbered all i (slice_index c.args.counts.now i) (omega arith) is w.if-count-eq0.false in
          let l = label_pushed all c.loop-count.labels c.if-count-eq0.labels (Some c.loop-count.next) i (w.labels-is ∙ w.in_ok-push-2.ensures.ok) told.long (ap Some told.next ∙ u.0) told.at in
          record { long = l.0; next = w.next-is ∙ (ap (λ n. n + 1) told.next ∙ sym u.1); at = l.1 }
    ]

pub returns : goal.returns
returns c =
    let l = c.loop-count.invariant.long in
    let n = c.requires.long in
    labels_told c.args.positions.now c.loop-count.labels (omega arith) (λ p h. c.loop-count.invariant.at p (omega arith))
