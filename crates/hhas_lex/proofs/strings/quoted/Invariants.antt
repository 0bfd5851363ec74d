use Rattle.std.proofs.Common.{◌≡◌, ℕ, ◌≤◌, length, take, fold, false}
use Rattle.hhas_lex.specs.declared.strings.Mode.TheVariants.{Plain}
use Rattle.hhas_lex.specs.Strings.{IsSmall, step, closes, value_of}
use Rattle.hhas_lex.proofs.strings.quoted.Given as goal

abbrev pub invariant-loop-count : goal.invariant-loop-count
invariant-loop-count l = record {
  small : IsSmall l.mode;
  mode_is : l.mode ≡ fold step Plain (take l.count l.text);
  within : l.size ≤ l.count;
  size_is : l.size ≡ length (value_of (take l.count l.text));
  unclosed : (m : ℕ) → m ≤ l.count → closes (take m l.text) ≡ false;
}
