use Rattle.std.proofs.Common.{[], ◌∷◌, codes, subst, Some, None}
use Rattle.hhas_lex.specs.Tokens.{Directive, Mark}
use Rattle.hhbc_repo.specs.Languages.{Ended}
use Rattle.hhbc_repo.specs.TypeSyntax.{AType}
use Rattle.hhas_read.specs.ClassMembers.{HeldToEnd}
use Rattle.hhas_read.specs.Reading.{Just, Past, any}
use Rattle.hhas_read.proofs.ClassParts.{mark_is_no_directive}
use Rattle.hhas_read.proofs.ClosedMaybe.{missing_resumes, there_resumes}
use Rattle.hhas_read.proofs.Resuming.{past_none, stop_lifts, taken_lifts}
use Rattle.hhas_read.proofs.reader.Reader.held_to_end.Goals as goal

pub returns-in-Ok : goal.returns-in-Ok
returns-in-Ok c =
    let old = c.args.self.now in let mid = c.skip.new.self in let holds = Directive (codes "holds") in
    taken_lifts any HeldToEnd (Ended AType (Mark 59 ∷ [])) old mid c.type_to_end.new.self (holds ∷ []) Some c.in-Ok.stated
    (there_resumes holds AType (Mark 59) any mid.tokens (mark_is_no_directive 59 (codes "holds")))
    (subst (λ t. Past (t ∷ []) old mid) c.if-is_directive.ensures c.skip.ensures) c.in-Ok.ensures

pub returns-in-Err : goal.returns-in-Err
returns-in-Err c =
    let old = c.args.self.now in let mid = c.skip.new.self in let holds = Directive (codes "holds") in
    stop_lifts any HeldToEnd (Ended AType (Mark 59 ∷ [])) old mid c.type_to_end.new.self (holds ∷ []) Some c.in-Err.stop
    (there_resumes holds AType (Mark 59) any mid.tokens (mark_is_no_directive 59 (codes "holds")))
    (subst (λ t. Past (t ∷ []) old mid) c.if-is_directive.ensures c.skip.ensures) c.in-Err.ensures

pub returns-in-Err-mark : goal.returns-in-Err-mark
returns-in-Err-mark c =
    let old = c.args.self.now in
    stop_lifts any HeldToEnd (Just (Mark 59)) old old c.mark.new.self [] (λ u. None) c.in-Err-mark.stop
    (missing_resumes (Directive (codes "holds")) AType (Mark 59) any old.tokens c.if-is_directive.ensures) (past_none old) c.in-Err-mark.ensures
