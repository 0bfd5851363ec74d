use Rattle.std.proofs.Common.{◌≡◌, ◌+◌, take}
use Rattle.round_pool.specs.Pieces.{AllGiven}
use Rattle.round_pool.proofs.piece.in_order.Given as goal

abbrev pub invariant-loop-job : goal.invariant-loop-job
invariant-loop-job g l = record {
  given : AllGiven (g.W.Worker.gives l.worker) (take l.job-index l.jobs) l.answers.items;
  counted : l.tally ≡ l.fn.tally + l.job-index;
  placed : l.place ≡ l.first + l.job-index;
}
