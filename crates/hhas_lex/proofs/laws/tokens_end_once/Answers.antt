use Rattle.hhas_lex.proofs.Ending.{end-alone, bad-alone, more-follow, places-each}
use Rattle.hhas_lex.proofs.laws.tokens_end_once.Goals as goal

pub returns : goal.returns
returns c = record { end = end-alone; bad = bad-alone; more = more-follow; places = places-each }
