use Rattle.std.proofs.Common.{◌+◌, ◌*◌}
use Rattle.round_pool.proofs.piece.+fn-halved-join+arg2+fn-halved-join+arg3+halved.Given as goal

abbrev pub decreases-join+arg2 : goal.decreases-join+arg2
decreases-join+arg2 g l = 2 * l.half + 1

abbrev pub decreases-join+arg3 : goal.decreases-join+arg3
decreases-join+arg3 g l = 2 * l.others + 1

abbrev pub decreases-halved : goal.decreases-halved
decreases-halved g l = 2 * l.workers
