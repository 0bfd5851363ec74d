use Rattle.std.proofs.Common.{◌≡◌, rules, Err}
use Rattle.hhbc_repo.specs.CodeSyntax.{AnIndex}
use Rattle.hhas_read.specs.Assertions.{of_stack}
use Rattle.hhas_read.proofs.AssertionForms.{typed_taken, untyped_stops, typed_stops}
use Rattle.hhas_read.proofs.Operands.{index_lawful}
use Rattle.hhas_read.proofs.reader.Reader.stack_assertion.Goals as goal

pub returns-in_err-depth : goal.returns-in_err-depth
returns-in_err-depth c =
    let e = c.in_err-depth.field-0.0 in let is : c.from_residual.result ≡ Err e = search rules in
    untyped_stops AnIndex of_stack c.args.self.now c.index.new.self e c.from_residual.result is c.in_err-depth.ensures

pub returns-in_err-stated : goal.returns-in_err-stated
returns-in_err-stated c =
    let e = c.in_err-stated.field-0.0 in let is : c.from_residual-in_err-stated.result ≡ Err e = search rules in
    typed_stops AnIndex of_stack index_lawful c.args.self.now c.index.new.self c.type_parts.new.self c.in_ok-depth.depth e c.from_residual-in_err-stated.result is
    c.in_ok-depth.ensures c.in_err-stated.ensures

pub returns : goal.returns
returns c = typed_taken AnIndex of_stack c.args.self.now c.index.new.self c.type_parts.new.self c.in_ok-depth.depth c.in_ok-stated.stated c.in_ok-depth.ensures c.in_ok-stated.ensures
