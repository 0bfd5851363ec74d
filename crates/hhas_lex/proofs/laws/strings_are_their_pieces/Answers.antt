use Rattle.hhas_lex.proofs.Pieced.{pieces-close, strings-pieced}
use Rattle.hhas_lex.proofs.laws.strings_are_their_pieces.Goals as goal

pub returns : goal.returns
returns c = record { pieces = strings-pieced; strings = pieces-close }
