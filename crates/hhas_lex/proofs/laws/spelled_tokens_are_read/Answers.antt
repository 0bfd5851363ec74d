use Rattle.hhas_lex.proofs.Following.{tokens-nil}
use Rattle.hhas_lex.proofs.Spelled.{spelled-read, white-skipped}
use Rattle.hhas_lex.proofs.laws.spelled_tokens_are_read.Goals as goal

pub returns : goal.returns
returns c = record { spelled = spelled-read; white = white-skipped; end = tokens-nil }
