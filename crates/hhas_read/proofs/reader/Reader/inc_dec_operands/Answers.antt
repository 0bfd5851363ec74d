use Rattle.std.proofs.Common.{◌≡◌, rules, Err}
use Rattle.hhbc_repo.specs.Languages.{Both}
use Rattle.hhbc_repo.specs.CodeSyntax.{AnIndex, AChange, ChangeKey}
use Rattle.hhas_read.specs.Sequences.{inc_dec}
use Rattle.hhas_read.proofs.Joining.{both_some}
use Rattle.hhas_read.proofs.Pairs.{both_taken, first_stops, second_stops, means_taken, means_stops}
use Rattle.hhas_read.proofs.Operands.{index_lawful, change_lawful}
use Rattle.hhas_read.proofs.KeyForms.{some_key}
use Rattle.hhas_read.proofs.reader.Reader.inc_dec_operands.Goals as goal

pub returns-in_err-count : goal.returns-in_err-count
returns-in_err-count c =
    let e = c.in_err-count.field-0.0 in let is : c.from_residual.result ≡ Err e = search rules in
    means_stops inc_dec (Both AnIndex (Both AChange ChangeKey)) c.args.self.now c.index.new.self e c.from_residual.result is
    (first_stops AnIndex (Both AChange ChangeKey) (both_some AChange ChangeKey change_lawful.some some_key) c.args.self.now c.index.new.self e c.in_err-count.ensures)

pub returns-in_err-op : goal.returns-in_err-op
returns-in_err-op c =
    let e = c.in_err-op.field-0.0 in let is : c.from_residual-in_err-op.result ≡ Err e = search rules in
    means_stops inc_dec (Both AnIndex (Both AChange ChangeKey)) c.args.self.now c.inc_dec.new.self e c.from_residual-in_err-op.result is
    (second_stops AnIndex (Both AChange ChangeKey) index_lawful c.args.self.now c.index.new.self c.inc_dec.new.self c.in_ok-count.count e c.in_ok-count.ensures
    (first_stops AChange ChangeKey some_key c.index.new.self c.inc_dec.new.self e c.in_err-op.ensures))

pub returns-in_err-key : goal.returns-in_err-key
returns-in_err-key c =
    let e = c.in_err-key.field-0.0 in let is : c.from_residual-in_err-key.result ≡ Err e = search rules in
    means_stops inc_dec (Both AnIndex (Both AChange ChangeKey)) c.args.self.now c.change_key.new.self e c.from_residual-in_err-key.result is
    (second_stops AnIndex (Both AChange ChangeKey) index_lawful c.args.self.now c.index.new.self c.change_key.new.self c.in_ok-count.count e c.in_ok-count.ensures
    (second_stops AChange ChangeKey change_lawful c.index.new.self c.inc_dec.new.self c.change_key.new.self c.in_ok-op.op e c.in_ok-op.ensures c.in_err-key.ensures))

pub returns : goal.returns
returns c =
    means_taken inc_dec (Both AnIndex (Both AChange ChangeKey)) c.args.self.now c.change_key.new.self (c.in_ok-count.count, (c.in_ok-op.op, c.in_ok-key.key))
    (both_taken AnIndex (Both AChange ChangeKey) c.args.self.now c.index.new.self c.change_key.new.self c.in_ok-count.count (c.in_ok-op.op, c.in_ok-key.key) c.in_ok-count.ensures
    (both_taken AChange ChangeKey c.index.new.self c.inc_dec.new.self c.change_key.new.self c.in_ok-op.op c.in_ok-key.key c.in_ok-op.ensures c.in_ok-key.ensures))
