use Rattle.std.proofs.Common.{◌≡◌, sym, subst, rules, Err}
use Rattle.hhas_read.specs.Reading.{Reads}
use Rattle.hhas_read.specs.TextWithoutEnd.{is_end}
use Rattle.hhas_read.proofs.DeclarationForms.{AllDeclared, PartsTaken, all_declared, declaration_stops, declaration_taken, nothing_declared}
use Rattle.hhas_read.proofs.reader.Reader.declared.Goals as goal

pub loop-alloc-init : goal.loop-alloc-init
loop-alloc-init c = subst (PartsTaken c.args.self.now c.args.self.now) (sym c.new-parts.ensures) (nothing_declared c.args.self.now)

pub returns-in_err-declaration : goal.returns-in_err-declaration
returns-in_err-declaration c =
    let e = c.in_err-declaration.field-0.0 in let new = c.declaration.new.self in let is : c.from_residual.result ≡ Err e = search rules in
    subst (λ r. Reads is_end AllDeclared c.args.self.now r new) (sym is)
    (declaration_stops c.args.self.now c.loop-alloc.self new c.loop-alloc.parts e c.loop-alloc.invariant (sym c.loop-alloc-test.ensures) c.in_err-declaration.ensures)

pub loop-alloc-preserved : goal.loop-alloc-preserved
loop-alloc-preserved c =
    declaration_taken c.args.self.now c.loop-alloc.self c.declaration.new.self c.loop-alloc.parts c.add.new.self c.in_ok-declaration.declaration c.loop-alloc.invariant
    (sym c.loop-alloc-test.ensures) c.in_ok-declaration.ensures c.in_ok-add.ensures

pub returns : goal.returns
returns c = all_declared c.args.self.now c.loop-alloc.self c.loop-alloc.parts c.loop-alloc.invariant (sym c.loop-alloc-test.ensures)
