use Rattle.std.proofs.Common.{[], ◌∷◌, codes, subst}
use Rattle.hhas_lex.specs.Tokens.{Directive}
use Rattle.hhbc_repo.specs.BodySyntax.{ABody}
use Rattle.hhbc_repo.specs.TextSyntax.{AClass}
use Rattle.hhas_read.specs.declared.declarations.Declaration.TheVariants as declarations
use Rattle.hhas_read.specs.Declarations.{ADeclarationOf}
use Rattle.hhas_read.specs.Reading.{Past, any}
use Rattle.hhas_read.proofs.DeclarationForms.{function_resumes, only_class}
use Rattle.hhas_read.proofs.Resuming.{past_none, stop_lifts, taken_lifts}
use Rattle.hhas_read.proofs.reader.Reader.declaration.Goals as goal

pub returns-in-Ok : goal.returns-in-Ok
returns-in-Ok c =
    let old = c.args.self.now in let mid = c.skip.new.self in
    taken_lifts any ADeclarationOf ABody old mid c.body.new.self (Directive (codes "function") ∷ []) declarations.Function c.in-Ok.function (function_resumes mid.tokens)
    (subst (λ t. Past (t ∷ []) old mid) c.if-is_directive.ensures c.skip.ensures) c.in-Ok.ensures

pub returns-in-Err : goal.returns-in-Err
returns-in-Err c =
    let old = c.args.self.now in let mid = c.skip.new.self in
    stop_lifts any ADeclarationOf ABody old mid c.body.new.self (Directive (codes "function") ∷ []) declarations.Function c.in-Err.stop (function_resumes mid.tokens)
    (subst (λ t. Past (t ∷ []) old mid) c.if-is_directive.ensures c.skip.ensures) c.in-Err.ensures

pub returns-in-Ok-class : goal.returns-in-Ok-class
returns-in-Ok-class c =
    let old = c.args.self.now in
    taken_lifts any ADeclarationOf AClass old old c.class.new.self [] declarations.Class c.in-Ok-class.class (only_class old.tokens c.if-is_directive.ensures)
    (past_none old) c.in-Ok-class.ensures

pub returns-in-Err-class : goal.returns-in-Err-class
returns-in-Err-class c =
    let old = c.args.self.now in
    stop_lifts any ADeclarationOf AClass old old c.class.new.self [] declarations.Class c.in-Err-class.stop (only_class old.tokens c.if-is_directive.ensures)
    (past_none old) c.in-Err-class.ensures
