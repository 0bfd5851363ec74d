use Rattle.std.proofs.Common.{codes, Ok, Err}
use Rattle.hhas_lex.specs.Tokens.{Directive}
use Rattle.hhbc_repo.specs.BodySyntax.{Iterators}
use Rattle.hhas_read.specs.declared.reader.Stop.TheVariants.{Syntax}
use Rattle.hhas_read.specs.Directives.{no_directive}
use Rattle.hhas_read.proofs.BodyForms.{Count, itself, once, some_count, twice}
use Rattle.hhas_read.proofs.BodyLaws.{count_law}
use Rattle.hhas_read.proofs.Optional.{optional_ends, optional_stops}
use Rattle.hhas_read.proofs.reader.Reader.iterator_count.Goals as goal

pub returns-then-is_directive : goal.returns-then-is_directive
returns-then-is_directive c =
    let new = c.count.new.self in
    optional_ends (no_directive (codes "numiters")) Iterators (Directive (codes "numiters")) Count (λ v. v) 0 some_count (itself (codes "numiters")) count_law c.args.self.now c.skip.new.self new
    c.in-Ok.count (Err Syntax) c.if-not-is_directive.ensures c.skip.ensures c.in-Ok.ensures (twice (codes "numiters") c.in-Ok.count new c.if-is_directive.ensures)

pub returns-else-is_directive : goal.returns-else-is_directive
returns-else-is_directive c =
    let new = c.count.new.self in
    optional_ends (no_directive (codes "numiters")) Iterators (Directive (codes "numiters")) Count (λ v. v) 0 some_count (itself (codes "numiters")) count_law c.args.self.now c.skip.new.self new
    c.in-Ok.count (Ok c.in-Ok.count) c.if-not-is_directive.ensures c.skip.ensures c.in-Ok.ensures (once (codes "numiters") c.in-Ok.count new c.if-is_directive.ensures)

pub returns-in-Err : goal.returns-in-Err
returns-in-Err c =
    optional_stops (no_directive (codes "numiters")) Iterators (Directive (codes "numiters")) Count (λ v. v) 0 some_count (itself (codes "numiters")) c.args.self.now c.skip.new.self c.count.new.self
    c.in-Err.stop c.if-not-is_directive.ensures c.skip.ensures c.in-Err.ensures
