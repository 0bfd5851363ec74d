use Rattle.hhbbc_top.proofs.CommandWords.{number-past}
use Rattle.hhbbc_top.proofs.words.number_of.Goals as goal

pub returns-then-number-gt-MAX_STEPS : goal.returns-then-number-gt-MAX_STEPS
returns-then-number-gt-MAX_STEPS c =
    number-past c.loop-digit.number c.loop-digit.digit-index c.args.digits.now c.loop-digit-test.true c.loop-digit.invariant.told c.if-number-gt-MAX_STEPS.true
