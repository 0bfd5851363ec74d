use Rattle.std.proofs.Common.{refl}
use Rattle.hhbbc_top.proofs.Fitting.{fit-turn, unfit-turn}
use Rattle.hhbbc_top.proofs.form.all_fit.Goals as goal

pub returns-then-not-fits : goal.returns-then-not-fits
returns-then-not-fits c = (
  (λ h. absurd (cc h)),
  (λ k. absurd (unfit-turn c.args.locals c.args.asserts.now c.loop-assert.assert-index _ c.loop-assert-test.true (λ f. absurd (cc (c.if-not-fits.ensures.1 f))) c.loop-assert.invariant k)),
)

pub loop-assert-preserved : goal.loop-assert-preserved
loop-assert-preserved c =
    fit-turn c.args.locals c.args.asserts.now c.loop-assert.assert-index _ c.loop-assert-test.true (c.if-not-fits.ensures.0 refl) c.loop-assert.invariant
