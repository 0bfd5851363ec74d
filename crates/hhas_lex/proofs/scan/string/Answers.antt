use Rattle.std.proofs.Common.{sym}
use Rattle.hhas_lex.proofs.Scanning.{long_string_scan, string_scan}
use Rattle.hhas_lex.proofs.scan.string.Goals as goal

pub returns-then-size-gt-MAX_TEXT-clause-value : goal.returns-then-size-gt-MAX_TEXT-clause-value
returns-then-size-gt-MAX_TEXT-clause-value c =
    sym (long_string_scan c.args.rest.now c.in_ok-count.count c.in_ok-count.size c.in_ok-count.ensures c.if-size-gt-MAX_TEXT.true)

pub returns-clause-value : goal.returns-clause-value
returns-clause-value c =
    sym (string_scan c.args.rest.now c.in_ok-count.count c.in_ok-count.size c.in_ok-count.ensures c.if-size-gt-MAX_TEXT.false)
