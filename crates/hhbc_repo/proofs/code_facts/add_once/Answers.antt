use Rattle.std.proofs.Common.{sym, ap, ◌∙◌}
use Rattle.hhbc_repo.specs.EachOnce.{is_among, joined}
use Rattle.hhbc_repo.proofs.KeptOnce.{joined_there, joined_new}
use Rattle.hhbc_repo.proofs.code_facts.add_once.Goals as goal

pub returns-in_ok-push-in-Some : goal.returns-in_ok-push-in-Some
returns-in_ok-push-in-Some c = λ more.
    let e = c.contains.ensures.value ∙ ap (λ l. is_among l c.in-Some.local) c.as_slice.ensures in
    rw c.in-Some.is
    (ap (λ l. joined l more) c.in_ok-push-in-Some.ensures.ok
    ∙ joined_new c.args.locals.now c.in-Some.local more (sym e ∙ c.if-not-contains.true))

pub returns-else-not-contains : goal.returns-else-not-contains
returns-else-not-contains c = λ more.
    let e = c.contains.ensures.value ∙ ap (λ l. is_among l c.in-Some.local) c.as_slice.ensures in
    rw c.in-Some.is (joined_there c.args.locals.now c.in-Some.local more (sym e ∙ c.if-not-contains.false))
