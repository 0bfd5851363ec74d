use Rattle.std.proofs.Common.{[], codes, Ok, Err}
use Rattle.hhas_lex.specs.Tokens.{Directive}
use Rattle.hhbc_repo.specs.BodySyntax.{Declared}
use Rattle.hhas_read.specs.declared.reader.Stop.TheVariants.{Syntax}
use Rattle.hhas_read.specs.Directives.{no_directive}
use Rattle.hhas_read.specs.Reading.{LocalsTo}
use Rattle.hhas_read.proofs.BodyForms.{itself, once, some_locals, twice}
use Rattle.hhas_read.proofs.BodyLaws.{locals_to_semicolon}
use Rattle.hhas_read.proofs.Optional.{optional_ends, optional_stops}
use Rattle.hhas_read.proofs.reader.Reader.declared_locals.Goals as goal

pub returns-then-is_directive : goal.returns-then-is_directive
returns-then-is_directive c =
    let new = c.locals_to.new.self in
    optional_ends (no_directive (codes "declvars")) Declared (Directive (codes "declvars")) (LocalsTo 59) (λ v. v) [] some_locals (itself (codes "declvars")) locals_to_semicolon c.args.self.now c.skip.new.self new
    c.in-Ok.locals (Err Syntax) c.if-not-is_directive.ensures c.skip.ensures c.in-Ok.ensures (twice (codes "declvars") c.in-Ok.locals new c.if-is_directive.ensures)

pub returns-else-is_directive : goal.returns-else-is_directive
returns-else-is_directive c =
    let new = c.locals_to.new.self in
    optional_ends (no_directive (codes "declvars")) Declared (Directive (codes "declvars")) (LocalsTo 59) (λ v. v) [] some_locals (itself (codes "declvars")) locals_to_semicolon c.args.self.now c.skip.new.self new
    c.in-Ok.locals (Ok c.in-Ok.locals) c.if-not-is_directive.ensures c.skip.ensures c.in-Ok.ensures (once (codes "declvars") c.in-Ok.locals new c.if-is_directive.ensures)

pub returns-in-Err : goal.returns-in-Err
returns-in-Err c =
    optional_stops (no_directive (codes "declvars")) Declared (Directive (codes "declvars")) (LocalsTo 59) (λ v. v) [] some_locals (itself (codes "declvars")) c.args.self.now c.skip.new.self c.locals_to.new.self
    c.in-Err.stop c.if-not-is_directive.ensures c.skip.ensures c.in-Err.ensures
