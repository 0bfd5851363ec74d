use Rattle.hhas_read.specs.Reading.{any}
use Rattle.hhbc_repo.specs.TextSyntax.{AScalar, AnInitial}
use Rattle.std.proofs.Common.{[]}
use Rattle.hhas_read.proofs.Resuming.{past_none, reads_on}
use Rattle.hhas_read.proofs.Values.{scalar_resumes}
use Rattle.hhas_read.proofs.reader.Reader.initial.Goals as goal

pub returns : goal.returns
returns c =
    let old = c.args.self.now in
    reads_on any AnInitial AScalar old old c.scalar.new.self [] c.scalar.result
    (scalar_resumes old.tokens c.if-is_word.ensures c.if-is_word-2.ensures c.if-is_word-3.ensures) (past_none old) c.scalar.ensures
