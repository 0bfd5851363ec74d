use Rattle.hhas_lex.specs.Bytes.{is_digit}
use Rattle.hhas_lex.proofs.Runs.{All-run_of}
use Rattle.hhas_lex.proofs.scan.positive.Goals as goal

pub number_from-requires-clause-digits : goal.number_from-requires-clause-digits
number_from-requires-clause-digits c = rw c.digits-count.ensures.value (All-run_of is_digit c.args.rest.now)
