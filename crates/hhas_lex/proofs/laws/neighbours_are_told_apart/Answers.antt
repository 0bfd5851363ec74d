use Rattle.hhas_lex.proofs.Touching.{white-apart, touching-apart, end-apart}
use Rattle.hhas_lex.proofs.laws.neighbours_are_told_apart.Goals as goal

pub returns : goal.returns
returns c = record { white = white-apart; touching = touching-apart; end = end-apart }
