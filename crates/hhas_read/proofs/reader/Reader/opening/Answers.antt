use Rattle.std.proofs.Common.{[], ◌∷◌, refl}
use Rattle.hhas_lex.specs.Tokens.{Directive, Mark}
use Rattle.hhas_read.proofs.Openings.{first_on, first_stop, just_says}
use Rattle.hhas_read.proofs.reader.Reader.opening.Goals as goal

pub returns-in-Ok : goal.returns-in-Ok
returns-in-Ok c =
    let mid = c.directive.new.self in let new = c.mark.new.self in
    first_on (Directive c.args.name.now) (Mark 123 ∷ []) c.args.self.now mid new tt c.mark.result c.in-Ok.ensures (just_says (Mark 123) mid new c.mark.result c.mark.ensures)

pub returns-in-Err : goal.returns-in-Err
returns-in-Err c = first_stop (Directive c.args.name.now) (Mark 123 ∷ []) refl c.args.self.now c.directive.new.self c.in-Err.stop c.in-Err.ensures
