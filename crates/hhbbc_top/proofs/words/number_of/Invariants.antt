use Rattle.std.proofs.Common.{◌≡◌, ◌≤◌, drop}
use Rattle.hhas_lex.specs.Bytes.{number_from}
use Rattle.hhbbc_top.proofs.words.number_of.Given as goal

abbrev pub invariant-loop-digit : goal.invariant-loop-digit
invariant-loop-digit l = record {
  small : l.number ≤ 1000000000;
  told : number_from l.number (drop l.digit-index l.digits) ≡ number_from 0 l.digits;
}
