use Rattle.std.proofs.Common.{◌≡◌, Option, Some, None, refl, sym, ap, ◌∙◌, subst}
use Rattle.hhbc_repo.specs.Checks.{Checks}
use Rattle.hhbc_repo.specs.declared.parts.BodyParts.{BodyParts}
use Rattle.hhbc_repo.specs.LinkFaults.{Whole, function_faults, with_name}
use Rattle.hhbc_repo.proofs.scope.Scope.check_function.Goals as goal

pub returns-in-Some : goal.returns-in-Some
returns-in-Some c =
    let p = c.args.self.now in
    let name = c.args.name.now in
    let found : with_name p.whole.functions name ≡ Some c.in-Some.called.now = ap (λ (w : Whole). with_name w.functions name) (sym c.known.ensures) ∙ c.in-Some.ensures in
    subst (λ (o : Option BodyParts). Checks (function_faults p name c.args.count o) tt c.check_count.result) (sym found) c.check_count.ensures

pub returns-in-None : goal.returns-in-None
returns-in-None c =
    let p = c.args.self.now in
    let name = c.args.name.now in
    let found : with_name p.whole.functions name ≡ None = ap (λ (w : Whole). with_name w.functions name) (sym c.known.ensures) ∙ c.in-None.ensures in
    (ap (λ (o : Option BodyParts). function_faults p name c.args.count o) found, refl)
