use Rattle.std.proofs.Common.{◌≡◌, ◌≤◌, ◌^◌, drop}
use Rattle.hhas_lex.specs.Bytes.{number_from}
use Rattle.hhas_lex.proofs.scan.number_from.Given as goal

abbrev pub invariant-loop-digit : goal.invariant-loop-digit
invariant-loop-digit l = record {
  fits : l.number ≤ 2 ^ 63;
  rest : number_from l.number (drop l.digit-index l.digits) ≡ number_from l.fn.first l.digits;
}
