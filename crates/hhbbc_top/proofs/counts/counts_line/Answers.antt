use Rattle.std.proofs.Common.{List, length, ap}
use Rattle.hhbc_repo.specs.declared.body.Body.{Body}
use Rattle.hhbc_repo.specs.declared.repo.Class.{Class}
use Rattle.hhbbc_top.proofs.Counting.{four_counts}
use Rattle.hhbbc_top.proofs.counts.counts_line.Goals as goal

pub returns : goal.returns
returns c =
    four_counts c.args.repo.now (length c.functions.result.now) c.methods_of.result (length c.classes.result.now) c.in_ok-positions.positions _ _ _ _ _ _
    (ap (λ (bs : List Body). length bs) c.functions.ensures) c.methods_of.ensures (ap (λ (cs : List Class). length cs) c.classes.ensures) c.in_ok-positions.ensures
    c.in_ok-line.ensures c.in_ok-push_count.ensures c.in_ok-push_count-2.ensures c.in_ok-push_count-3.ensures c.in_ok-push_count-4.ensures c.in_ok-append.ensures.ok
