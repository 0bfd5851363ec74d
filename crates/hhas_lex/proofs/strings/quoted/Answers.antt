use Rattle.std.proofs.Common.{◌+◌, ◌∙◌, ap, arith}
use Rattle.hhas_lex.proofs.Quotes.{length-value_of-more, mode-more, closed-front, broken-front, unclosed-more}
use Rattle.hhas_lex.proofs.strings.quoted.Goals as goal

pub returns-in-Closed : goal.returns-in-Closed
returns-in-Closed c =
    let i = c.loop-count.invariant in (
      closed-front c.args.text.now c.loop-count.count c.loop-count.mode _ c.loop-count-test.true i.mode_is c.step-mode.ensures.value c.in-Closed.is,
      ap (λ n. c.loop-count.size + n) c.given_count-size.ensures.value
          ∙ length-value_of-more c.args.text.now c.loop-count.count c.loop-count.size c.loop-count.mode c.loop-count-test.true i.mode_is i.size_is,
    )

pub returns-in-Broken : goal.returns-in-Broken
returns-in-Broken c =
    let i = c.loop-count.invariant in
    broken-front c.args.text.now c.loop-count.count c.loop-count.mode _ c.loop-count-test.true i.mode_is c.step-mode.ensures.value c.in-Broken.is i.unclosed

pub loop-count-preserved : goal.loop-count-preserved
loop-count-preserved c =
    let i = c.loop-count.invariant in
    record {
      small = c.step-mode.ensures.small;
      mode_is = c.step-mode.ensures.value ∙ mode-more c.args.text.now c.loop-count.count c.loop-count.mode c.loop-count-test.true i.mode_is;
      within = omega arith;
      size_is =
          ap (λ n. c.loop-count.size + n) c.given_count-size.ensures.value
          ∙ length-value_of-more c.args.text.now c.loop-count.count c.loop-count.size c.loop-count.mode c.loop-count-test.true i.mode_is i.size_is;
      unclosed = unclosed-more c.args.text.now c.loop-count.count c.loop-count.mode _ c.loop-count-test.true i.mode_is c.step-mode.ensures.value c.in_default.not-Closed i.unclosed;
    }
