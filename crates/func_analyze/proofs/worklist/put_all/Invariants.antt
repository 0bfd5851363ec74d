use Rattle.std.proofs.Common.{◌≡◌, ℕ, List, length}
use Rattle.func_analyze.specs.Worklist.{AllFit, FlowsFit, Puts}
use Rattle.func_analyze.proofs.worklist.put_all.Given as goal

-- what the rest will do, all flows do
abbrev pub invariant-loop-position : goal.invariant-loop-position
invariant-loop-position g l = record {
  count : length l.table.items ≡ g.P.Problem.positions l.problem;
  fit : AllFit (g.P.Problem.fits l.problem) l.table.items;
  flows_fit : FlowsFit (g.P.Problem.fits l.problem) l.flows.items;
  puts : (X : List _) (Y : List ℕ)
      → Puts (g.P.Problem.below l.problem) (g.P.Problem.fits l.problem) (g.P.Problem.rank l.problem) (g.P.Problem.top l.problem) l.table.items l.work.items l.flows.items X Y
      → Puts (g.P.Problem.below l.problem) (g.P.Problem.fits l.problem) (g.P.Problem.rank l.problem) (g.P.Problem.top l.problem) l.fn.table.items l.fn.work.items l.fn.flows.items X Y;
}

abbrev pub decreases-loop-position : goal.decreases-loop-position
decreases-loop-position g l = length l.flows.items
