use Rattle.std.proofs.Common.{◌≡◌, sym, subst, rules, Err}
use Rattle.hhbc_repo.specs.Languages.{Both}
use Rattle.hhbc_repo.specs.TextSyntax.{AnInitial}
use Rattle.hhas_read.specs.ClassMembers.{HeldToEnd}
use Rattle.hhas_read.specs.Reading.{Reads, any}
use Rattle.hhas_read.proofs.ClassParts.{held_law}
use Rattle.hhas_read.proofs.Pairs.{both_taken, first_stops, second_stops}
use Rattle.hhas_read.proofs.ValueLaws.{initial_law}
use Rattle.hhas_read.proofs.reader.Reader.initial_and_held.Goals as goal

pub returns-in_err-initial : goal.returns-in_err-initial
returns-in_err-initial c =
    let old = c.args.self.now in let new = c.initial.new.self in let e = c.in_err-initial.field-0.0 in let is : c.from_residual.result ≡ Err e = search rules in
    subst (λ r. Reads any (Both AnInitial HeldToEnd) old r new) (sym is) (first_stops AnInitial HeldToEnd held_law.some old new e c.in_err-initial.ensures)

pub returns-in_err-stated : goal.returns-in_err-stated
returns-in_err-stated c =
    let old = c.args.self.now in let mid = c.initial.new.self in let new = c.held_to_end.new.self in let e = c.in_err-stated.field-0.0 in
    let is : c.from_residual-in_err-stated.result ≡ Err e = search rules in
    subst (λ r. Reads any (Both AnInitial HeldToEnd) old r new) (sym is)
    (second_stops AnInitial HeldToEnd initial_law old mid new c.in_ok-initial.initial e c.in_ok-initial.ensures c.in_err-stated.ensures)

pub returns : goal.returns
returns c =
    both_taken AnInitial HeldToEnd c.args.self.now c.initial.new.self c.held_to_end.new.self c.in_ok-initial.initial c.in_ok-stated.stated c.in_ok-initial.ensures c.in_ok-stated.ensures
