use Rattle.std.proofs.Common.{◌≡◌, rules, Err}
use Rattle.hhbc_repo.specs.Languages.{Both}
use Rattle.hhbc_repo.specs.CodeSyntax.{AnIndex, AMode, QueryKey}
use Rattle.hhas_read.specs.Sequences.{query}
use Rattle.hhas_read.proofs.Joining.{both_some}
use Rattle.hhas_read.proofs.Pairs.{both_taken, first_stops, second_stops, means_taken, means_stops}
use Rattle.hhas_read.proofs.Operands.{index_lawful, mode_lawful}
use Rattle.hhas_read.proofs.KeyForms.{some_query_key}
use Rattle.hhas_read.proofs.reader.Reader.query_operands.Goals as goal

pub returns-in_err-count : goal.returns-in_err-count
returns-in_err-count c =
    let e = c.in_err-count.field-0.0 in let is : c.from_residual.result ≡ Err e = search rules in
    means_stops query (Both AnIndex (Both AMode QueryKey)) c.args.self.now c.index.new.self e c.from_residual.result is
    (first_stops AnIndex (Both AMode QueryKey) (both_some AMode QueryKey mode_lawful.some some_query_key) c.args.self.now c.index.new.self e c.in_err-count.ensures)

pub returns-in_err-mode : goal.returns-in_err-mode
returns-in_err-mode c =
    let e = c.in_err-mode.field-0.0 in let is : c.from_residual-in_err-mode.result ≡ Err e = search rules in
    means_stops query (Both AnIndex (Both AMode QueryKey)) c.args.self.now c.query_mode.new.self e c.from_residual-in_err-mode.result is
    (second_stops AnIndex (Both AMode QueryKey) index_lawful c.args.self.now c.index.new.self c.query_mode.new.self c.in_ok-count.count e c.in_ok-count.ensures
    (first_stops AMode QueryKey some_query_key c.index.new.self c.query_mode.new.self e c.in_err-mode.ensures))

pub returns-in_err-key : goal.returns-in_err-key
returns-in_err-key c =
    let e = c.in_err-key.field-0.0 in let is : c.from_residual-in_err-key.result ≡ Err e = search rules in
    means_stops query (Both AnIndex (Both AMode QueryKey)) c.args.self.now c.query_key.new.self e c.from_residual-in_err-key.result is
    (second_stops AnIndex (Both AMode QueryKey) index_lawful c.args.self.now c.index.new.self c.query_key.new.self c.in_ok-count.count e c.in_ok-count.ensures
    (second_stops AMode QueryKey mode_lawful c.index.new.self c.query_mode.new.self c.query_key.new.self c.in_ok-mode.mode e c.in_ok-mode.ensures c.in_err-key.ensures))

pub returns : goal.returns
returns c =
    means_taken query (Both AnIndex (Both AMode QueryKey)) c.args.self.now c.query_key.new.self (c.in_ok-count.count, (c.in_ok-mode.mode, c.in_ok-key.key))
    (both_taken AnIndex (Both AMode QueryKey) c.args.self.now c.index.new.self c.query_key.new.self c.in_ok-count.count (c.in_ok-mode.mode, c.in_ok-key.key) c.in_ok-count.ensures
    (both_taken AMode QueryKey c.index.new.self c.query_mode.new.self c.query_key.new.self c.in_ok-mode.mode c.in_ok-key.key c.in_ok-mode.ensures c.in_ok-key.ensures))
