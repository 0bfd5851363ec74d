use Rattle.std.proofs.Common.{length, ◌-◌, ◌≡◌, ◌+◌, ◌≤◌, drop}
use Rattle.hhas_lex.specs.Tokens.{gap, gap_within}
use Rattle.hhas_lex.proofs.lexer.gap_length.Given as goal

abbrev pub invariant-loop-count : goal.invariant-loop-count
invariant-loop-count l = record {
  within : l.count ≤ length l.text;
  value : l.count + gap_within l.comment (drop l.count l.text) ≡ gap l.text;
}

abbrev pub decreases-loop-count : goal.decreases-loop-count
decreases-loop-count l = length l.text - l.count
