use Rattle.std.proofs.Common.{rules, ◌≡◌, length}
use Rattle.func_analyze.proofs.Putting.{keeps_first, keeps_next, keeps_done}
use Rattle.func_analyze.proofs.worklist.least.Goals as goal

pub loop-position-init : goal.loop-position-init
loop-position-init g c =
    let x = c.args.problem.now in
    let m = g.P.Problem in
    let p = g.met.P.Problem in
    keeps_first (m.below x) (m.fits x) (m.positions x) (m.start x) (m.flows x) (m.rank x) (m.top x)
    (record {
      reflexive = p.reflexive x;
      transitive = p.transitive x;
      monotone = p.monotone x;
      starts = p.starts x;
      inside = p.inside x;
      leads = p.leads x;
      higher = p.higher x;
      bounded = p.bounded x;
    })
    c.positions.result c.put.new.table.items c.put.new.work.items c.positions.ensures
    (rw (c.in_ok-entry.ensures, c.in_ok-table.ensures, c.new-work.ensures.items) at c.in_ok-put.ensures)

pub loop-position-preserved : goal.loop-position-preserved
loop-position-preserved g c =
    let x = c.args.problem.now in
    let m = g.P.Problem in
    let p = g.met.P.Problem in
    keeps_next (m.below x) (m.fits x) (m.positions x) (m.start x) (m.flows x) (m.rank x) (m.top x)
    (record {
      reflexive = p.reflexive x;
      transitive = p.transitive x;
      monotone = p.monotone x;
      starts = p.starts x;
      inside = p.inside x;
      leads = p.leads x;
      higher = p.higher x;
      bounded = p.bounded x;
    })
    c.loop-position.table.items c.put_all.new.table.items c.loop-position.work.items c.pop.new.self.items c.put_all.new.work.items c.in-Some.position
    c.in_ok-flows.flows.items c.loop-position.invariant c.in-Some.ensures.items
    (rw (c.place.ensures, c.as_slice.ensures.value) at c.in_ok-flows.ensures.flows)
    (rw (c.place.ensures, c.as_slice.ensures.value) at c.in_ok-flows.ensures.known)
    c.in_ok-put_all.ensures

pub returns : goal.returns
returns g c =
    let x = c.args.problem.now in
    let m = g.P.Problem in
    let p = g.met.P.Problem in
    let none : length c.loop-position.work.items ≡ 0 = search rules in
    keeps_done (m.below x) (m.fits x) (m.positions x) (m.start x) (m.flows x) (m.rank x) (m.top x)
    (record {
      reflexive = p.reflexive x;
      transitive = p.transitive x;
      monotone = p.monotone x;
      starts = p.starts x;
      inside = p.inside x;
      leads = p.leads x;
      higher = p.higher x;
      bounded = p.bounded x;
    })
    c.loop-position.table.items c.loop-position.work.items none c.loop-position.invariant
