use Rattle.std.proofs.Common.{ℕ, List, [], Option, refl, subst}
use Rattle.hhas_lex.specs.Tokens.{Str}
use Rattle.hhas_read.specs.Reading.{any, next}
use Rattle.hhas_read.specs.Pieces.{IsValue}
use Rattle.hhas_read.proofs.OneToken.{single_stuck}
use Rattle.hhas_read.proofs.reader.Reader.string.Goals as goal

pub returns-in_default : goal.returns-in_default
returns-in_default c = single_stuck Str any [] refl c.args.self.now (subst (λ (o : Option (List ℕ)). IsValue o (next c.args.self.now)) c.in_default.is c.in_ok-value.ensures)
