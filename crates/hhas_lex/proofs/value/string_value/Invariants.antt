use Rattle.std.proofs.Common.{◌≡◌, ◌≤◌, ◌++◌, length, take, fold}
use Rattle.std.specs.List.{between}
use Rattle.hhas_lex.specs.declared.strings.Mode.TheVariants.{Plain}
use Rattle.hhas_lex.specs.Strings.{IsSmall, step, value_of}
use Rattle.hhas_lex.proofs.value.string_value.Given as goal

abbrev pub invariant-loop-at : goal.invariant-loop-at
invariant-loop-at l = record {
  small : IsSmall l.mode;
  mode_is : l.mode ≡ fold step Plain (take l.at l.pieces);
  before : l.from ≤ l.at;
  inside : l.at ≤ length l.pieces;
  value_is : l.value ++ between l.from l.at l.pieces ≡ value_of (take l.at l.pieces);
}
