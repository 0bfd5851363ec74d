use Rattle.func_analyze.proofs.Putting.{lifts_puts}
use Rattle.func_analyze.proofs.worklist.put.Goals as goal

pub returns-in_ok-push-in-Some : goal.returns-in_ok-push-in-Some
returns-in_ok-push-in-Some g c =
    let x = c.args.problem.now in
    let m = g.P.Problem in
    let p = g.met.P.Problem in
    rw c.in_ok-push-in-Some.ensures.items
    (lifts_puts (m.below x) (m.fits x) (m.positions x) (m.start x) (m.flows x) (m.rank x) (m.top x)
    (record {
      reflexive = p.reflexive x;
      transitive = p.transitive x;
      monotone = p.monotone x;
      starts = p.starts x;
      inside = p.inside x;
      leads = p.leads x;
      higher = p.higher x;
      bounded = p.bounded x;
    })
    c.args.table.now.items c.args.work.now.items c.args.position c.args.state c.in-Some.next c.requires.count c.requires.fit
    (rw c.in-Some.is at c.in_ok-lifted.ensures.fits)
    (rw (c.in-Some.is, c.place.ensures, c.as_slice.ensures.value) at c.in_ok-lifted.ensures.lifts))
