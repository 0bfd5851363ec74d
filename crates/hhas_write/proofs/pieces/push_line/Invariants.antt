use Rattle.std.proofs.Common.{◌≡◌, ◌++◌, ◌∷◌}
use Rattle.hhbc_repo.specs.CanonicalText.{indent}
use Rattle.hhas_write.proofs.pieces.push_line.Given as goal

abbrev pub invariant-loop : goal.invariant-loop
invariant-loop l = l.out ≡ l.fn.out ++ 10 ∷ indent l.counter
