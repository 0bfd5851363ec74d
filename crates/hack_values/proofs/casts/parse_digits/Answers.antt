use Rattle.std.proofs.Common.{◌≡◌, ◌∙◌, true, get_or, arith, rules}
use Rattle.hack_values.specs.Casts.{is_digit}
use Rattle.hack_values.proofs.Digits.{number_after-read}
use Rattle.hack_values.proofs.casts.parse_digits.Goals as goal

pub loop-digit-preserved : goal.loop-digit-preserved
loop-digit-preserved c =
    let digit : is_digit (get_or c.args.digits.now c.loop-digit.digit-index 0) ≡ true = search rules in
    record {
      told = number_after-read c.loop-digit.value c.saturating_mul.result c.saturating_add-value.result c.args.digits.now c.loop-digit.digit-index (omega arith) digit c.saturating_mul.ensures c.saturating_add-value.ensures ∙ c.loop-digit.invariant.told;
      small = omega arith;
    }
