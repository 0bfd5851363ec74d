use Rattle.std.proofs.Common.{◌≡◌, ◌++◌, ◌∷◌, sym, subst, rules, Err}
use Rattle.hhbc_repo.specs.Languages.{Both}
use Rattle.hhbc_repo.specs.CodeSyntax.{AnArm}
use Rattle.hhas_read.specs.Arms.{ArmsToEnd}
use Rattle.hhas_read.specs.Reading.{Reads, any}
use Rattle.hhas_read.proofs.Pairs.{first_stops}
use Rattle.hhas_read.proofs.Resuming.{stop_lifts}
use Rattle.hhas_read.proofs.ArmForms.{ArmNext, ArmsLeft, arm_next, arms_end, first_arm, some_left}
use Rattle.hhas_read.proofs.reader.Reader.arms_to_end.Goals as goal

pub loop-arms-init : goal.loop-arms-init
loop-arms-init c = subst (ArmNext c.args.self.now c.args.self.now) (sym c.new-arms.ensures) (first_arm c.args.self.now)

pub returns-in_err-arm : goal.returns-in_err-arm
returns-in_err-arm c =
    let old = c.loop-arms.self in let new = c.arm.new.self in let inv = c.loop-arms.invariant in let e = c.in_err-arm.field-0.0 in
    let is : c.from_residual.result ≡ Err e = search rules in
    subst (λ r. Reads any ArmsToEnd c.args.self.now r new) (sym is)
    (stop_lifts any ArmsToEnd (Both AnArm ArmsLeft) c.args.self.now old new inv.0 (λ p. c.loop-arms.arms ++ (p.0 ∷ p.1.0)) e inv.2 inv.1
    (first_stops AnArm ArmsLeft some_left old new e c.in_err-arm.ensures))

pub returns-then-is_mark : goal.returns-then-is_mark
returns-then-is_mark c =
    arms_end c.args.self.now c.loop-arms.self c.arm.new.self c.skip.new.self c.loop-arms.arms c.push.new.self c.in_ok-arm.arm c.loop-arms.invariant c.in_ok-arm.ensures
    c.if-is_mark.ensures c.skip.ensures c.in_ok-push.ensures.ok

pub loop-arms-preserved : goal.loop-arms-preserved
loop-arms-preserved c =
    arm_next c.args.self.now c.loop-arms.self c.arm.new.self c.loop-arms.arms c.push.new.self c.in_ok-arm.arm c.loop-arms.invariant c.in_ok-arm.ensures
    c.if-is_mark.ensures c.in_ok-push.ensures.ok
