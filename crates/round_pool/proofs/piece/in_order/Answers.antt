use Rattle.std.proofs.Common.{rules, ℕ, subst, sym, get_or}
use Rattle.round_pool.proofs.Taking.{taken_at}
use Rattle.round_pool.proofs.Giving.{given_more}
use Rattle.round_pool.proofs.piece.in_order.Goals as goal

pub work-requires-clause-job : goal.work-requires-clause-job
work-requires-clause-job g c =
    let P : ℕ → Type 0 = λ place. g.W.Worker.takes c.args.worker.now place (get_or c.args.jobs.now c.loop-job.job-index 0) in
    subst P (sym c.loop-job.invariant.placed) (taken_at (g.W.Worker.takes c.args.worker.now) c.args.first c.args.jobs.now c.loop-job.job-index 0 c.loop-job-test.true c.requires.jobs)

pub loop-job-preserved : goal.loop-job-preserved
loop-job-preserved g c = record {
  given = rw c.in_ok-push.ensures.items (given_more (g.W.Worker.gives c.args.worker.now) c.args.jobs.now c.loop-job.job-index 0 c.loop-job.answers.items c.in_ok-answer.answer c.loop-job-test.true c.loop-job.invariant.given c.in_ok-answer.ensures.answer);
  counted = search rules;
  placed = search rules;
}
