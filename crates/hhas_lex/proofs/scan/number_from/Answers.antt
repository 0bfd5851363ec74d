use Rattle.std.proofs.Common.{◌<◌, ◌^◌, arith}
use Rattle.std.proofs.lemmas.Bool.Decides.{nat_tests}
use Rattle.hhas_lex.specs.Bytes.{number_from}
use Rattle.hhas_lex.proofs.Numbers.{number_from-past}
use Rattle.hhas_lex.proofs.scan.number_from.Goals as goal

pub returns-then-number-gt922337203685477580 : goal.returns-then-number-gt922337203685477580
returns-then-number-gt922337203685477580 c =
    let past : 2 ^ 63 < number_from c.args.first c.args.digits.now =
    rw (← c.loop-digit.invariant.rest) (number_from-past c.loop-digit.number c.loop-digit.digit-index c.args.digits.now (omega arith) (omega arith)) in
    grind (arith, nat_tests)

pub returns-then-number-gt9223372036854775808 : goal.returns-then-number-gt9223372036854775808
returns-then-number-gt9223372036854775808 c =
    let past : 2 ^ 63 < number_from c.args.first c.args.digits.now =
    rw (← c.loop-digit.invariant.rest) (number_from-past c.loop-digit.number c.loop-digit.digit-index c.args.digits.now (omega arith) (omega arith)) in
    grind (arith, nat_tests)
