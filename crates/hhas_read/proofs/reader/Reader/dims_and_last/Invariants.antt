use Rattle.std.proofs.Common.{List, length, false}
use Rattle.hhas_lex.specs.Tokens.{Token}
use Rattle.hhas_read.specs.Reading.{Past, any}
use Rattle.hhas_read.specs.Sequences.{DimsAfter}
use Rattle.hhas_read.proofs.Resuming.{Resumes}
use Rattle.hhas_read.proofs.DimForms.{behind_keys}
use Rattle.hhas_read.proofs.reader.Reader.dims_and_last.Given as goal

abbrev pub invariant-loop-self : goal.invariant-loop-self
invariant-loop-self l = (used : List Token) × Past used l.fn.self l.self × Resumes any (DimsAfter false) used (DimsAfter l.nullsafe) (behind_keys l.dims) l.self.tokens

abbrev pub decreases-loop-self : goal.decreases-loop-self
decreases-loop-self l = length l.self.tokens
