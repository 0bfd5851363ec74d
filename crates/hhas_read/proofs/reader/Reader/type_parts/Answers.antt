use Rattle.std.proofs.Common.{[]}
use Rattle.hhbc_repo.specs.TypeSyntax.{AType, AWrittenType, type_of}
use Rattle.hhas_read.specs.WholeTypes.{AWrittenTypeOf, written_type_of}
use Rattle.hhas_read.specs.Written.{ends_type}
use Rattle.hhas_read.proofs.Images.{image_resumes}
use Rattle.hhas_read.proofs.Onto.{type_onto}
use Rattle.hhas_read.proofs.Resuming.{past_none, stop_lifts}
use Rattle.hhas_read.proofs.reader.Reader.type_parts.Goals as goal

pub returns-in-Err : goal.returns-in-Err
returns-in-Err c =
    let old = c.args.self.now in
    stop_lifts ends_type AType AWrittenTypeOf old old c.written_type.new.self [] (λ w. type_of (written_type_of w)) c.in-Err.stop
    (image_resumes ends_type AWrittenType written_type_of type_of type_onto old.tokens) (past_none old) c.in-Err.ensures
