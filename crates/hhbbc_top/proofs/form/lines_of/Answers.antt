use Rattle.std.proofs.Common.{take, sym, subst, List}
use Rattle.hhbc_repo.specs.declared.body.Position.{Position}
use Rattle.hhbbc_top.specs.Mains.{AreLines}
use Rattle.hhbbc_top.proofs.Fitting.{lines-more, one-more}
use Rattle.hhbbc_top.proofs.form.lines_of.Goals as goal

pub loop-position-preserved : goal.loop-position-preserved
loop-position-preserved c =
    let ps = c.args.positions.now in
    let i = c.loop-position.position-index in
    let p = c.position-item.result in
    subst (λ (qs : List Position). AreLines c.args.locals qs c.push.new.self) (sym (one-more ps i p c.loop-position-test.true c.position-item.is))
    (lines-more c.args.locals (take i ps) c.loop-position.lines c.push.new.self p c.in-Ok.line c.loop-position.invariant c.in-Ok.ensures.read c.in_ok-push-in-Ok.ensures.ok)
