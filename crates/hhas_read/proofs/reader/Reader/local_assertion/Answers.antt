use Rattle.std.proofs.Common.{◌≡◌, rules, Err}
use Rattle.hhbc_repo.specs.CodeSyntax.{ALocal}
use Rattle.hhas_read.specs.Assertions.{of_local}
use Rattle.hhas_read.proofs.AssertionForms.{typed_taken, untyped_stops, typed_stops}
use Rattle.hhas_read.proofs.FormLaws.{local_lawful}
use Rattle.hhas_read.proofs.reader.Reader.local_assertion.Goals as goal

pub returns-in_err-name : goal.returns-in_err-name
returns-in_err-name c =
    let e = c.in_err-name.field-0.0 in let is : c.from_residual.result ≡ Err e = search rules in
    untyped_stops ALocal of_local c.args.self.now c.local.new.self e c.from_residual.result is c.in_err-name.ensures

pub returns-in_err-stated : goal.returns-in_err-stated
returns-in_err-stated c =
    let e = c.in_err-stated.field-0.0 in let is : c.from_residual-in_err-stated.result ≡ Err e = search rules in
    typed_stops ALocal of_local local_lawful c.args.self.now c.local.new.self c.type_parts.new.self c.in_ok-name.name e c.from_residual-in_err-stated.result is
    c.in_ok-name.ensures c.in_err-stated.ensures

pub returns : goal.returns
returns c = typed_taken ALocal of_local c.args.self.now c.local.new.self c.type_parts.new.self c.in_ok-name.name c.in_ok-stated.stated c.in_ok-name.ensures c.in_ok-stated.ensures
