use Rattle.std.proofs.Common.{◌+◌, ◌*◌, length}
use Rattle.func_analyze.specs.Worklist.{room}
use Rattle.func_analyze.proofs.Putting.{Keeps}
use Rattle.func_analyze.proofs.worklist.least.Given as goal

abbrev pub invariant-loop-position : goal.invariant-loop-position
invariant-loop-position g l =
    Keeps (g.P.Problem.below l.problem) (g.P.Problem.fits l.problem) (g.P.Problem.positions l.problem) (g.P.Problem.start l.problem)
    (g.P.Problem.flows l.problem) l.table.items l.work.items

-- each position that goes onto the list has a state that rose, and each turn takes one from it
abbrev pub decreases-loop-position : goal.decreases-loop-position
decreases-loop-position g l = 2 * room (g.P.Problem.rank l.problem) (g.P.Problem.top l.problem) l.table.items + length l.work.items
