use Rattle.std.proofs.Common.{◌++◌, List, length}
use Rattle.hhas_lex.specs.Tokens.{Token}
use Rattle.hhas_read.specs.Reading.{LocalsTo, Past, any}
use Rattle.hhas_read.proofs.Resuming.{Resumes}
use Rattle.hhas_read.proofs.reader.Reader.locals_to.Given as goal

abbrev pub invariant-loop-out : goal.invariant-loop-out
invariant-loop-out l = (used : List Token) × Past used l.fn.self l.self × Resumes any (LocalsTo l.end) used (LocalsTo l.end) (λ ys. l.out ++ ys) l.self.tokens

abbrev pub decreases-loop-out : goal.decreases-loop-out
decreases-loop-out l = length l.self.tokens
