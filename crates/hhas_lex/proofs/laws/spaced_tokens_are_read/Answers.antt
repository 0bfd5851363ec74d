use Rattle.hhas_lex.proofs.Spacing.{text-read}
use Rattle.hhas_lex.proofs.laws.spaced_tokens_are_read.Goals as goal

pub returns : goal.returns
returns c = text-read
