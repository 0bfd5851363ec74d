use Rattle.std.proofs.Common.{◌≡◌, ◌++◌, [], ◌∷◌, sym, subst, rules, Err}
use Rattle.hhas_read.specs.Arms.{StringArmsToEnd, TargetTo}
use Rattle.hhas_read.specs.Reading.{Reads, Taken, any}
use Rattle.hhas_read.proofs.Resuming.{stop_lifts, taken_lifts}
use Rattle.hhas_read.proofs.ArmForms.{plain_arm}
use Rattle.hhas_read.proofs.StringArmForms.{TextsTaken, default_next, no_texts, text_stops, text_taken}
use Rattle.hhas_read.proofs.reader.Reader.string_arms_to_end.Goals as goal

pub loop-self-init : goal.loop-self-init
loop-self-init c = subst (TextsTaken c.args.self.now c.args.self.now) (sym c.new-arms.ensures) (no_texts c.args.self.now)

pub returns-in_err-arm : goal.returns-in_err-arm
returns-in_err-arm c =
    let e = c.in_err-arm.field-0.0 in let new = c.string_arm.new.self in let is : c.from_residual.result ≡ Err e = search rules in
    subst (λ r. Reads any StringArmsToEnd c.args.self.now r new) (sym is)
    (text_stops c.args.self.now c.loop-self.self new c.loop-self.arms e c.loop-self.invariant c.loop-self-test.ensures c.in_err-arm.ensures)

pub loop-self-preserved : goal.loop-self-preserved
loop-self-preserved c =
    text_taken c.args.self.now c.loop-self.self c.string_arm.new.self c.loop-self.arms c.push.new.self c.in_ok-arm.arm c.loop-self.invariant c.loop-self-test.ensures
    c.in_ok-arm.ensures c.in_ok-push.ensures.ok

pub returns-in_err-target : goal.returns-in_err-target
returns-in_err-target c =
    let start = c.args.self.now in let mid = c.skip.new.self in let new = c.target_to.new.self in let e = c.in_err-target.field-0.0 in let arms = c.loop-self.arms in
    let is : c.from_residual-in_err-target.result ≡ Err e = search rules in
    let far = default_next start c.loop-self.self mid arms c.loop-self.invariant c.loop-self-test.ensures c.skip.ensures in
    subst (λ r. Reads any StringArmsToEnd start r new) (sym is)
    (stop_lifts any StringArmsToEnd (TargetTo 62) start mid new far.0 (λ b. arms ++ plain_arm b ∷ []) e far.2 far.1 c.in_err-target.ensures)

pub returns : goal.returns
returns c =
    let start = c.args.self.now in let mid = c.skip.new.self in let new = c.target_to.new.self in let arms = c.loop-self.arms in
    let far = default_next start c.loop-self.self mid arms c.loop-self.invariant c.loop-self-test.ensures c.skip.ensures in
    subst (Taken any StringArmsToEnd start new) (sym c.in_ok-push-2.ensures.ok)
    (taken_lifts any StringArmsToEnd (TargetTo 62) start mid new far.0 (λ b. arms ++ plain_arm b ∷ []) c.in_ok-target.target far.2 far.1 c.in_ok-target.ensures)
