use Rattle.std.proofs.Common.{refl, pos}
use Rattle.hhas_lex.specs.Tokens.{Integer}
use Rattle.hhas_read.specs.Reading.{any, next}
use Rattle.hhas_read.proofs.OneToken.{single_stuck}
use Rattle.hhas_read.proofs.Said.{not_integer}
use Rattle.hhas_read.proofs.reader.Reader.integer.Goals as goal

pub returns-in_default : goal.returns-in_default
returns-in_default c = single_stuck Integer any (pos 0) refl c.args.self.now (not_integer c.peek.result (next c.args.self.now) c.peek.ensures c.in_default.not-Integer)
