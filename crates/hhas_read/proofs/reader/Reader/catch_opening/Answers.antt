use Rattle.std.proofs.Common.{[], ◌∷◌, refl, codes}
use Rattle.hhas_lex.specs.Tokens.{Directive, Mark}
use Rattle.hhas_read.proofs.Openings.{first_on, first_stop}
use Rattle.hhas_read.proofs.reader.Reader.catch_opening.Goals as goal

pub returns-in-Ok : goal.returns-in-Ok
returns-in-Ok c =
    first_on (Mark 125) (Directive (codes "catch") ∷ Mark 123 ∷ []) c.args.self.now c.mark.new.self c.opening.new.self tt c.opening.result c.in-Ok.ensures c.opening.ensures

pub returns-in-Err : goal.returns-in-Err
returns-in-Err c = first_stop (Mark 125) (Directive (codes "catch") ∷ Mark 123 ∷ []) refl c.args.self.now c.mark.new.self c.in-Err.stop c.in-Err.ensures
