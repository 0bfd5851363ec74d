use Rattle.std.proofs.Common.{◌≡◌, rules, Err}
use Rattle.hhbc_repo.specs.Languages.{Both}
use Rattle.hhbc_repo.specs.CodeSyntax.{AWord}
use Rattle.hhas_read.specs.ClassMembers.{PropertyValue, property_of}
use Rattle.hhas_read.proofs.OneAtom.{a_word}
use Rattle.hhas_read.proofs.ClassParts.{property_value_law}
use Rattle.hhas_read.proofs.Pairs.{both_taken, first_stops, means_stops, means_taken, second_stops}
use Rattle.hhas_read.proofs.reader.Reader.property.Goals as goal

pub returns-in_err-name : goal.returns-in_err-name
returns-in_err-name c =
    let e = c.in_err-name.field-0.0 in let is : c.from_residual.result ≡ Err e = search rules in
    means_stops property_of (Both AWord PropertyValue) c.args.self.now c.word.new.self e c.from_residual.result is
    (first_stops AWord PropertyValue property_value_law.some c.args.self.now c.word.new.self e c.in_err-name.ensures)

pub returns-in_err-initial : goal.returns-in_err-initial
returns-in_err-initial c =
    let e = c.in_err-initial.field-0.0 in let is : c.from_residual-in_err-initial.result ≡ Err e = search rules in
    means_stops property_of (Both AWord PropertyValue) c.args.self.now c.property_value.new.self e c.from_residual-in_err-initial.result is
    (second_stops AWord PropertyValue a_word c.args.self.now c.word.new.self c.property_value.new.self c.in_ok-name.name e c.in_ok-name.ensures c.in_err-initial.ensures)

pub returns : goal.returns
returns c =
    means_taken property_of (Both AWord PropertyValue) c.args.self.now c.property_value.new.self (c.in_ok-name.name, (c.in_ok-initial.initial, c.in_ok-initial.stated))
    (both_taken AWord PropertyValue c.args.self.now c.word.new.self c.property_value.new.self c.in_ok-name.name (c.in_ok-initial.initial, c.in_ok-initial.stated) c.in_ok-name.ensures c.in_ok-initial.ensures)
