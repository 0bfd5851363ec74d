use Rattle.std.proofs.Common.{◌≡◌, rules, Err}
use Rattle.hhbc_repo.specs.Languages.{Both}
use Rattle.hhbc_repo.specs.CodeSyntax.{AnIndex, SetKey}
use Rattle.hhas_read.specs.Sequences.{set}
use Rattle.hhas_read.proofs.Pairs.{both_taken, first_stops, second_stops, means_taken, means_stops}
use Rattle.hhas_read.proofs.Operands.{index_lawful}
use Rattle.hhas_read.proofs.KeyForms.{some_set_key}
use Rattle.hhas_read.proofs.reader.Reader.set_operands.Goals as goal

pub returns-in_err-count : goal.returns-in_err-count
returns-in_err-count c =
    let e = c.in_err-count.field-0.0 in let is : c.from_residual.result ≡ Err e = search rules in
    means_stops set (Both AnIndex SetKey) c.args.self.now c.index.new.self e c.from_residual.result is
    (first_stops AnIndex SetKey some_set_key c.args.self.now c.index.new.self e c.in_err-count.ensures)

pub returns-in_err-key : goal.returns-in_err-key
returns-in_err-key c =
    let e = c.in_err-key.field-0.0 in let is : c.from_residual-in_err-key.result ≡ Err e = search rules in
    means_stops set (Both AnIndex SetKey) c.args.self.now c.set_key.new.self e c.from_residual-in_err-key.result is
    (second_stops AnIndex SetKey index_lawful c.args.self.now c.index.new.self c.set_key.new.self c.in_ok-count.count e c.in_ok-count.ensures c.in_err-key.ensures)

pub returns : goal.returns
returns c =
    means_taken set (Both AnIndex SetKey) c.args.self.now c.set_key.new.self (c.in_ok-count.count, c.in_ok-key.key)
    (both_taken AnIndex SetKey c.args.self.now c.index.new.self c.set_key.new.self c.in_ok-count.count c.in_ok-key.key c.in_ok-count.ensures c.in_ok-key.ensures)
