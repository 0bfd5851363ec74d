use Rattle.std.proofs.Common.{◌++◌, ◌≤◌, List, length}
use Rattle.hhas_lex.specs.Tokens.{Token}
use Rattle.hhas_read.specs.Reading.{Past}
use Rattle.hhas_read.specs.WholeTypes.{TypeAtomsBehind, TypeAtomsFrom}
use Rattle.hhas_read.specs.Written.{ends_type}
use Rattle.hhas_read.proofs.Resuming.{Resumes}
use Rattle.hhas_read.proofs.reader.Reader.type_atoms.Given as goal

abbrev pub invariant-loop-out : goal.invariant-loop-out
invariant-loop-out l = (1 ≤ l.least) × (l.least ≤ 8) × (used : List Token) × Past used l.fn.self l.self × Resumes ends_type (TypeAtomsBehind l.fn.first) used (TypeAtomsFrom l.least) (λ ys. l.out ++ ys) l.self.tokens

abbrev pub decreases-loop-out : goal.decreases-loop-out
decreases-loop-out l = length l.self.tokens
