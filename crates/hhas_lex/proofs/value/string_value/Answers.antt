use Rattle.std.proofs.Common.{◌∙◌, arith}
use Rattle.hhas_lex.proofs.Quotes.{mode-more, run-on, run-pushed}
use Rattle.hhas_lex.proofs.value.string_value.Goals as goal
use Rattle.hhas_lex.proofs.value.string_value.Goals.{then-not-is_literal+in_ok-push_run, else-not-is_literal}

pub loop-at-preserved : goal.loop-at-preserved
loop-at-preserved c =
    let i = c.loop-at.invariant in
    let mode = c.step-mode.ensures.value ∙ mode-more _ c.loop-at.at c.loop-at.mode c.loop-at-test.true i.mode_is in
    elim c.if-not-is_literal.branch [
      | then-not-is_literal+in_ok-push_run w ↦ record {
        small = c.step-mode.ensures.small;
        mode_is = mode;
        before = omega (arith, w.from-is);
        inside = omega arith;
        value_is = run-pushed _ c.loop-at.from c.loop-at.at _ c.loop-at.mode c.loop-at.value _ c.loop-at-test.true i.mode_is i.value_is (w.value-is ∙ w.in_ok-push_run.ensures) w.from-is;
      }
      | else-not-is_literal w ↦ record {
        small = c.step-mode.ensures.small;
        mode_is = mode;
        before = omega (arith, w.from-is);
        inside = omega arith;
        value_is = run-on _ c.loop-at.from c.loop-at.at _ c.loop-at.mode c.loop-at.value _ c.loop-at-test.true i.before i.mode_is i.value_is (c.is_literal.ensures w.if-not-is_literal.false) w.value-is w.from-is;
      }
    ]
