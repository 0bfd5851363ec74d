use Rattle.std.proofs.Common.{[]}
use Rattle.hhbc_repo.specs.TypeSyntax.{AConstraint, AWrittenConstraint, constraint_of}
use Rattle.hhas_read.specs.Constraints.{AConstraintOf}
use Rattle.hhas_read.specs.LeafSyntax.{written_of}
use Rattle.hhas_read.specs.Written.{ends_type}
use Rattle.hhas_read.proofs.Images.{image_resumes}
use Rattle.hhas_read.proofs.Onto.{written_onto}
use Rattle.hhas_read.proofs.Resuming.{past_none, stop_lifts}
use Rattle.hhas_read.proofs.reader.Reader.constraint_parts.Goals as goal

pub returns-in-Err : goal.returns-in-Err
returns-in-Err c =
    let old = c.args.self.now in
    stop_lifts ends_type AConstraint AConstraintOf old old c.constraint.new.self [] (λ w. constraint_of (written_of w)) c.in-Err.stop
    (image_resumes ends_type AWrittenConstraint written_of constraint_of written_onto old.tokens) (past_none old) c.in-Err.ensures
