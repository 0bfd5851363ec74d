use Rattle.std.proofs.Common.{◌≡◌, ℕ, Option, Some, None, sym, ap, ◌∙◌, subst}
use Rattle.hhbc_repo.specs.Checks.{Checks, TellsFirst}
use Rattle.hhbc_repo.specs.LinkFaults.{Whole, class_of, method_faults}
use Rattle.hhbc_repo.proofs.scope.Scope.check_method.Goals as goal

pub returns-in-Some : goal.returns-in-Some
returns-in-Some c =
    let p = c.args.self.now in
    let name = c.args.name.now in
    let class = c.args.class.now in
    let at : class_of p.whole class ≡ Some c.in-Some.number = ap (λ (w : Whole). class_of w class) (sym (c.listed.ensures ∙ c.known.ensures)) ∙ sym c.class_of.ensures ∙ c.in-Some.is in
    subst (λ (o : Option ℕ). Checks (method_faults p name class c.args.count o) tt c.check_method_in.result) (sym at) c.check_method_in.ensures

pub returns-in-None : goal.returns-in-None
returns-in-None c =
    let p = c.args.self.now in
    let name = c.args.name.now in
    let class = c.args.class.now in
    let at : class_of p.whole class ≡ None = ap (λ (w : Whole). class_of w class) (sym (c.listed.ensures ∙ c.known.ensures)) ∙ sym c.class_of.ensures ∙ c.in-None.is in
    subst (λ (o : Option ℕ). TellsFirst (method_faults p name class c.args.count o) c.missing.result) (sym at) c.missing.ensures
