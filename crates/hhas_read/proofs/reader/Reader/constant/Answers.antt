use Rattle.std.proofs.Common.{◌≡◌, rules, Err}
use Rattle.hhbc_repo.specs.Languages.{Both}
use Rattle.hhbc_repo.specs.CodeSyntax.{AWord}
use Rattle.hhas_read.specs.ClassMembers.{ConstValue, const_of}
use Rattle.hhas_read.proofs.OneAtom.{a_word}
use Rattle.hhas_read.proofs.ClassParts.{const_value_law}
use Rattle.hhas_read.proofs.Pairs.{both_taken, first_stops, means_stops, means_taken, second_stops}
use Rattle.hhas_read.proofs.reader.Reader.constant.Goals as goal

pub returns-in_err-name : goal.returns-in_err-name
returns-in_err-name c =
    let e = c.in_err-name.field-0.0 in let is : c.from_residual.result ≡ Err e = search rules in
    means_stops const_of (Both AWord ConstValue) c.args.self.now c.word.new.self e c.from_residual.result is
    (first_stops AWord ConstValue const_value_law.some c.args.self.now c.word.new.self e c.in_err-name.ensures)

pub returns-in_err-value : goal.returns-in_err-value
returns-in_err-value c =
    let e = c.in_err-value.field-0.0 in let is : c.from_residual-in_err-value.result ≡ Err e = search rules in
    means_stops const_of (Both AWord ConstValue) c.args.self.now c.const_value.new.self e c.from_residual-in_err-value.result is
    (second_stops AWord ConstValue a_word c.args.self.now c.word.new.self c.const_value.new.self c.in_ok-name.name e c.in_ok-name.ensures c.in_err-value.ensures)

pub returns : goal.returns
returns c =
    means_taken const_of (Both AWord ConstValue) c.args.self.now c.const_value.new.self (c.in_ok-name.name, c.in_ok-value.value)
    (both_taken AWord ConstValue c.args.self.now c.word.new.self c.const_value.new.self c.in_ok-name.name c.in_ok-value.value c.in_ok-name.ensures c.in_ok-value.ensures)
