use Rattle.std.proofs.Common.{refl, drop}
use Rattle.hhas_lex.specs.Tokens.{Bad, meaning, left, left_places}
use Rattle.hhas_read.proofs.Looking.{seen-tokens, seen-places}
use Rattle.hhas_read.proofs.reader.look.Goals as goal

pub returns-in-Ok-clause-tokens : goal.returns-in-Ok-clause-tokens
returns-in-Ok-clause-tokens c =
    let l = c.args.lexer.now in let e = c.in-Ok.ensures in
    seen-tokens (drop l.at l.text) (meaning l.text c.in-Ok.token) (left c.next.new.self) e.token.0 e.token.1

pub returns-in-Ok-clause-places : goal.returns-in-Ok-clause-places
returns-in-Ok-clause-places c =
    let l = c.args.lexer.now in let e = c.in-Ok.ensures in
    seen-places l.at (drop l.at l.text) (meaning l.text c.in-Ok.token) c.in-Ok.token.start (left_places c.next.new.self) e.token.0 e.places.0 e.places.1

pub returns-in-Err-clause-tokens : goal.returns-in-Err-clause-tokens
returns-in-Err-clause-tokens c =
    let l = c.args.lexer.now in seen-tokens (drop l.at l.text) Bad _ c.in-Err.ensures.fault.0 refl

pub returns-in-Err-clause-places : goal.returns-in-Err-clause-places
returns-in-Err-clause-places c =
    let l = c.args.lexer.now in seen-places l.at (drop l.at l.text) Bad c.in-Err.fault.at _ c.in-Err.ensures.fault.0 c.in-Err.ensures.fault_at.1 refl
