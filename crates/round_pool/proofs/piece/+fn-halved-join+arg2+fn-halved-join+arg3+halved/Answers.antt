use Rattle.std.proofs.Common.{rules, ◌+◌, length, take-append-drop}
use Rattle.round_pool.specs.Pieces.{AllTaken}
use Rattle.round_pool.proofs.Joining.{piece_joined}
use Rattle.round_pool.proofs.Taking.{taken_take, taken_drop}
use Rattle.round_pool.proofs.piece.+fn-halved-join+arg2+fn-halved-join+arg3+halved.Goals as goal

pub join-left-requires-after_bounds : goal.join-left-requires-after_bounds
join-left-requires-after_bounds g t c κs within =
    let front : AllTaken (g.W.Worker.takes c.args.worker.now) c.args.first c.split_at.result.0.now =
    rw c.split_at.ensures.front (taken_take (g.W.Worker.takes c.args.worker.now) c.args.first c.args.jobs.now _ c.requires.jobs) in
    let back : AllTaken (g.W.Worker.takes c.args.worker.now) (c.args.first + length c.split_at.result.0.now) c.split_at.result.1.now =
    rw (c.split_at.ensures.front_len, c.split_at.ensures.back) (taken_drop (g.W.Worker.takes c.args.worker.now) c.args.first c.args.jobs.now _ c.requires.jobs) in
    search rules

pub returns : goal.returns
returns g t c =
    piece_joined (g.W.Worker.gives c.args.worker.now) c.split_at.result.0.now c.split_at.result.1.now c.args.jobs.now
    c.join-left.result.0.answers c.join-left.result.1.answers c.joined.result c.join-left.result.0.tally c.join-left.result.1.tally c.merge.new.self
    (search rules) (search rules) c.joined.ensures c.merge.ensures (rw (c.split_at.ensures.front, c.split_at.ensures.back) (take-append-drop _ _))
