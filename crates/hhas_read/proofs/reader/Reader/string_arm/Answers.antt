use Rattle.std.proofs.Common.{◌≡◌, [], refl, subst, sym, rules, Err}
use Rattle.hhbc_repo.specs.CodeSyntax.{AString, AStringArm}
use Rattle.hhas_read.specs.Arms.{TargetTo}
use Rattle.hhas_read.specs.Reading.{Reads, any}
use Rattle.hhas_read.proofs.Pairs.{both_taken, first_stops, second_stops}
use Rattle.hhas_read.proofs.Resuming.{past_none, stop_lifts, taken_lifts}
use Rattle.hhas_read.proofs.StringArmForms.{TextAndTarget, some_target, string_lawful, text_arm, text_resumes}
use Rattle.hhas_read.proofs.reader.Reader.string_arm.Goals as goal

pub returns-in_err-text : goal.returns-in_err-text
returns-in_err-text c =
    let old = c.args.self.now in let new = c.string.new.self in let e = c.in_err-text.field-0.0 in let is : c.from_residual.result ≡ Err e = search rules in
    subst (λ r. Reads any AStringArm old r new) (sym is)
    (stop_lifts any AStringArm TextAndTarget old old new [] text_arm e (text_resumes old.tokens) (past_none old)
    (first_stops AString (TargetTo 44) (some_target 44 refl) old new e c.in_err-text.ensures))

pub returns-in_err-target : goal.returns-in_err-target
returns-in_err-target c =
    let old = c.args.self.now in let mid = c.string.new.self in let new = c.target_to.new.self in let e = c.in_err-target.field-0.0 in
    let is : c.from_residual-in_err-target.result ≡ Err e = search rules in
    subst (λ r. Reads any AStringArm old r new) (sym is)
    (stop_lifts any AStringArm TextAndTarget old old new [] text_arm e (text_resumes old.tokens) (past_none old)
    (second_stops AString (TargetTo 44) string_lawful old mid new c.in_ok-text.text e c.in_ok-text.ensures c.in_err-target.ensures))

pub returns : goal.returns
returns c =
    let old = c.args.self.now in let mid = c.string.new.self in let new = c.target_to.new.self in let s = c.in_ok-text.text in let t = c.in_ok-target.target in
    taken_lifts any AStringArm TextAndTarget old old new [] text_arm (s, t) (text_resumes old.tokens) (past_none old)
    (both_taken AString (TargetTo 44) old mid new s t c.in_ok-text.ensures c.in_ok-target.ensures)
