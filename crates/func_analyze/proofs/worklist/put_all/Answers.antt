use Rattle.std.proofs.Common.{rules, ◌≡◌, length}
use Rattle.func_analyze.proofs.Putting.{last_in, others_in, puts_last, is_nothing}
use Rattle.func_analyze.proofs.worklist.put_all.Goals as goal

pub put-requires-clause-fits : goal.put-requires-clause-fits
put-requires-clause-fits g c =
    c.loop-position.invariant.flows_fit c.in-Some.position c.in-Some.state
    (last_in c.pop.new.self.items c.loop-position.flows.items (c.in-Some.position, c.in-Some.state) c.in-Some.ensures.items)

pub loop-position-preserved : goal.loop-position-preserved
loop-position-preserved g c =
    let x = c.args.problem.now in
    let m = g.P.Problem in
    let p = g.met.P.Problem in
    record {
      count = rw c.in_ok-put.ensures.count c.loop-position.invariant.count;
      fit = c.in_ok-put.ensures.fit;
      flows_fit = λ q t n. c.loop-position.invariant.flows_fit q t
          (others_in c.pop.new.self.items c.loop-position.flows.items (c.in-Some.position, c.in-Some.state) c.in-Some.ensures.items (q, t) n);
      puts = λ X Y b. c.loop-position.invariant.puts X Y
          (puts_last (m.below x) (m.fits x) (m.positions x) (m.start x) (m.flows x) (m.rank x) (m.top x)
          (record {
            reflexive = p.reflexive x;
            transitive = p.transitive x;
            monotone = p.monotone x;
            starts = p.starts x;
            inside = p.inside x;
            leads = p.leads x;
            higher = p.higher x;
            bounded = p.bounded x;
          })
          c.loop-position.table.items c.put.new.table.items X c.loop-position.work.items c.put.new.work.items Y (c.in-Some.position, c.in-Some.state)
          c.pop.new.self.items c.loop-position.flows.items c.in-Some.ensures.items c.in_ok-put.ensures b);
    }

pub returns : goal.returns
returns g c =
    let x = c.args.problem.now in
    let m = g.P.Problem in
    let p = g.met.P.Problem in
    let none : length c.loop-position.flows.items ≡ 0 = search rules in
    c.loop-position.invariant.puts _ _
    (is_nothing (m.below x) (m.fits x) (m.positions x) (m.start x) (m.flows x) (m.rank x) (m.top x)
    (record {
      reflexive = p.reflexive x;
      transitive = p.transitive x;
      monotone = p.monotone x;
      starts = p.starts x;
      inside = p.inside x;
      leads = p.leads x;
      higher = p.higher x;
      bounded = p.bounded x;
    })
    c.loop-position.table.items c.loop-position.work.items c.loop-position.flows.items none c.loop-position.invariant.fit)
