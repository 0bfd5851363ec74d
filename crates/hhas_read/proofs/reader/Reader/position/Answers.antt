use Rattle.std.proofs.Common.{◌≡◌, sym, subst, rules, Err}
use Rattle.hhbc_repo.specs.BodySyntax.{APosition}
use Rattle.hhbc_repo.specs.CodeSyntax.{ACode}
use Rattle.hhas_read.specs.Reading.{Reads}
use Rattle.hhas_read.specs.Written.{ends_type}
use Rattle.hhas_read.proofs.Resuming.{stop_lifts, taken_lifts}
use Rattle.hhas_read.proofs.AssertionForms.{assertion_shortens}
use Rattle.hhas_read.proofs.PositionLaws.{AssertionsTaken, assertion_stops, assertion_taken, code_next, no_assertions, of_run}
use Rattle.hhas_read.proofs.reader.Reader.position.Goals as goal

pub loop-self-init : goal.loop-self-init
loop-self-init c = subst (AssertionsTaken c.args.self.now c.args.self.now) (sym c.new-asserts.ensures) (no_assertions c.args.self.now)

pub returns-in_err-assertion : goal.returns-in_err-assertion
returns-in_err-assertion c =
    let e = c.in_err-assertion.field-0.0 in let new = c.assertion.new.self in let is : c.from_residual.result ≡ Err e = search rules in
    subst (λ r. Reads ends_type APosition c.args.self.now r new) (sym is)
    (assertion_stops c.args.self.now c.loop-self.self new c.loop-self.asserts e c.loop-self.invariant c.loop-self-test.ensures c.in_err-assertion.ensures)

pub loop-self-preserved : goal.loop-self-preserved
loop-self-preserved c =
    assertion_taken c.args.self.now c.loop-self.self c.assertion.new.self c.loop-self.asserts c.push.new.self c.in_ok-assertion.assertion c.loop-self.invariant c.loop-self-test.ensures
    c.in_ok-assertion.ensures c.in_ok-push.ensures.ok

pub loop-self-smaller : goal.loop-self-smaller
loop-self-smaller c = assertion_shortens c.loop-self.self c.assertion.new.self c.in_ok-assertion.assertion c.in_ok-assertion.ensures

pub returns-in_err-code : goal.returns-in_err-code
returns-in_err-code c =
    let start = c.args.self.now in let old = c.loop-self.self in let new = c.code.new.self in let e = c.in_err-code.field-0.0 in
    let is : c.from_residual-in_err-code.result ≡ Err e = search rules in
    let far = code_next start old c.loop-self.asserts c.loop-self.invariant c.loop-self-test.ensures in
    subst (λ r. Reads ends_type APosition start r new) (sym is)
    (stop_lifts ends_type APosition ACode start old new far.0 (λ b. of_run (c.loop-self.asserts, b)) e far.2 far.1 c.in_err-code.ensures)

pub returns : goal.returns
returns c =
    let start = c.args.self.now in let old = c.loop-self.self in let new = c.code.new.self in
    let far = code_next start old c.loop-self.asserts c.loop-self.invariant c.loop-self-test.ensures in
    taken_lifts ends_type APosition ACode start old new far.0 (λ b. of_run (c.loop-self.asserts, b)) c.in_ok-code.code far.2 far.1 c.in_ok-code.ensures
