use Rattle.std.proofs.Common.{[], Err, sym}
use Rattle.hhbc_repo.specs.CodeSyntax.{AMemberSeq}
use Rattle.hhbc_repo.specs.Languages.{Means}
use Rattle.hhbc_repo.specs.declared.parts.CodeParts.TheVariants.{Member}
use Rattle.hhas_read.specs.declared.reader.Stop.TheVariants.{Syntax}
use Rattle.hhas_read.specs.Written.{ends_type}
use Rattle.hhas_read.proofs.Following.{ends_on, stops_on, unended}
use Rattle.hhas_read.proofs.Joining.{means_resumes}
use Rattle.hhas_read.proofs.MemberLaws.{member_law}
use Rattle.hhas_read.proofs.Resuming.{past_none}
use Rattle.hhas_read.proofs.reader.Reader.member_code.Goals as goal

pub returns-then-not-ends_type : goal.returns-then-not-ends_type
returns-then-not-ends_type c =
    let old = c.args.self.now in let new = c.member_seq.new.self in
    ends_on ends_type (Means Member AMemberSeq) AMemberSeq old old new [] Member c.in-Ok.sequence (Err Syntax) member_law (means_resumes ends_type Member AMemberSeq old.tokens)
    (past_none old) c.in-Ok.ensures (unended ends_type (Member c.in-Ok.sequence) new (sym c.if-not-ends_type.ensures))

pub returns-in-Err : goal.returns-in-Err
returns-in-Err c =
    let old = c.args.self.now in
    stops_on ends_type (Means Member AMemberSeq) AMemberSeq old old c.member_seq.new.self [] Member c.in-Err.stop (means_resumes ends_type Member AMemberSeq old.tokens) (past_none old) c.in-Err.ensures
