use Rattle.hhas_read.specs.Reading.{any, next}
use Rattle.hack_values.specs.declared.cell.Cell.TheVariants as cells
use Rattle.hhbc_repo.specs.CodeSyntax.{AString}
use Rattle.hhbc_repo.specs.TextSyntax.{AScalar}
use Rattle.std.proofs.Common.{[]}
use Rattle.hhas_read.proofs.Resuming.{past_none, stop_lifts}
use Rattle.hhas_read.proofs.Said.{not_integer}
use Rattle.hhas_read.proofs.Values.{string_resumes}
use Rattle.hhas_read.proofs.reader.Reader.scalar.Goals as goal

pub returns-in-Err : goal.returns-in-Err
returns-in-Err c =
    let old = c.args.self.now in
    stop_lifts any AScalar AString old old c.string.new.self [] cells.Str c.in-Err.stop
    (string_resumes old.tokens c.if-is_word.ensures c.if-is_word-2.ensures c.if-is_word-3.ensures
    (not_integer c.peek.result (next old) c.peek.ensures c.in_default.not-Integer)) (past_none old) c.in-Err.ensures
