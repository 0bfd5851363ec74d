use Rattle.std.proofs.Common.{[]}
use Rattle.hhas_read.specs.TextWithoutEnd.{DeclaredText, is_end}
use Rattle.hhas_read.proofs.DeclarationForms.{AllDeclared, all_declared_law}
use Rattle.hhas_read.proofs.DeclaredLaws.{WholeText, profile_tokens, text_resumes}
use Rattle.hhas_read.proofs.Resuming.{past_none, reads_on, stop_lifts}
use Rattle.hhas_read.proofs.Tags.{behind_reads, behind_stop}
use Rattle.hhas_read.proofs.reader.Reader.declarations.Goals as goal

pub returns-in-Ok : goal.returns-in-Ok
returns-in-Ok c =
    let old = c.args.self.now in let new = c.declared.new.self in
    reads_on is_end DeclaredText WholeText old old new [] c.declared.result (text_resumes old.tokens) (past_none old)
    (behind_reads is_end profile_tokens AllDeclared old c.profile.new.self new c.declared.result c.in-Ok.ensures c.declared.ensures)

pub returns-in-Err : goal.returns-in-Err
returns-in-Err c =
    let old = c.args.self.now in let new = c.profile.new.self in
    stop_lifts is_end DeclaredText WholeText old old new [] (λ r. r) c.in-Err.stop (text_resumes old.tokens) (past_none old)
    (behind_stop is_end profile_tokens AllDeclared old new c.in-Err.stop all_declared_law.some c.in-Err.ensures)
