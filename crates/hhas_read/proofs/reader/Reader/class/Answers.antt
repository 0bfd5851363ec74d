use Rattle.std.proofs.Common.{[], ◌∷◌, codes}
use Rattle.hhas_lex.specs.Tokens.{Directive}
use Rattle.hhbc_repo.specs.Languages.{Behind}
use Rattle.hhbc_repo.specs.TextSyntax.{AClass}
use Rattle.hhas_read.specs.ClassMembers.{ClassTail}
use Rattle.hhas_read.specs.Reading.{any}
use Rattle.hhas_read.proofs.ClassLaws.{class_resumes, class_tail_law}
use Rattle.hhas_read.proofs.Firsts.{first_reads, first_stop}
use Rattle.hhas_read.proofs.Resuming.{past_none, reads_on, stop_lifts}
use Rattle.hhas_read.proofs.reader.Reader.class.Goals as goal

pub returns-in-Ok : goal.returns-in-Ok
returns-in-Ok c =
    let old = c.args.self.now in let new = c.class_tail.new.self in let first = Directive (codes "class") in
    reads_on any AClass (Behind (first ∷ []) ClassTail) old old new [] c.class_tail.result (class_resumes old.tokens) (past_none old)
    (first_reads any first ClassTail old c.directive.new.self new c.class_tail.result c.in-Ok.ensures c.class_tail.ensures)

pub returns-in-Err : goal.returns-in-Err
returns-in-Err c =
    let old = c.args.self.now in let new = c.directive.new.self in let first = Directive (codes "class") in
    stop_lifts any AClass (Behind (first ∷ []) ClassTail) old old new [] (λ c. c) c.in-Err.stop (class_resumes old.tokens) (past_none old)
    (first_stop any first ClassTail old new c.in-Err.stop class_tail_law.some c.in-Err.ensures)
