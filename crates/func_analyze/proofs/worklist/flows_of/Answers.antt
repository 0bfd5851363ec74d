use Rattle.std.proofs.Common.{rules, ℕ, subst, List, Contains}
use Rattle.func_analyze.proofs.Putting.{if_ok}
use Rattle.func_analyze.proofs.worklist.flows_of.Goals as goal

pub returns-in-Some-Some-clause-fit : goal.returns-in-Some-Some-clause-fit
returns-in-Some-Some-clause-fit g c =
    let fits : g.P.Problem.fits c.args.problem.now c.args.position c.in-Some-Some.state = search rules in
    if_ok _ _ c.flow.result
    (λ to e q t m. g.met.P.Problem.leads c.args.problem.now c.args.position c.in-Some-Some.state fits q t
    (subst (λ (v : List (ℕ × _)). Contains v (q, t)) e m))
    c.flow.ensures
