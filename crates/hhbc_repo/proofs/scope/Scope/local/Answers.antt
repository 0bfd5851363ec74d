use Rattle.std.proofs.Common.{◌≡◌, Some, None, sym, ap, ◌∙◌, subst}
use Rattle.hhbc_repo.specs.Checks.{Tells}
use Rattle.hhbc_repo.specs.LinkFaults.{Place, place_in, locals_of, dollar, names}
use Rattle.hhbc_repo.specs.declared.link_fault.LinkKind.TheVariants as kinds
use Rattle.hhbc_repo.specs.Resolved.{or_zero}
use Rattle.hhbc_repo.proofs.Checking.{check_told, check_passes}
use Rattle.hhbc_repo.proofs.NumbersPut.{absent_names, there_names}
use Rattle.hhbc_repo.proofs.scope.Scope.local.Goals as goal

pub returns-in-Some : goal.returns-in-Some
returns-in-Some c =
    let p = c.args.self.now in
    let name = c.args.name.now in
    let found : place_in (locals_of p.body) name ≡ Some c.in-Some.number =
    ap (λ (q : Place). place_in (locals_of q.body) name) (sym c.self.view_is) ∙ sym (c.self.invariant.1.0.1 name) ∙ sym c.find.ensures ∙ c.in-Some.is in
    (check_passes (names (locals_of p.body) name) kinds.UnknownName p.owner (dollar name) 0 (there_names (locals_of p.body) name c.in-Some.number found), sym (ap or_zero found))

pub returns-in-None : goal.returns-in-None
returns-in-None c =
    let p = c.args.self.now in
    let name = c.args.name.now in
    let found : place_in (locals_of p.body) name ≡ None =
    ap (λ (q : Place). place_in (locals_of q.body) name) (sym c.self.view_is) ∙ sym (c.self.invariant.1.0.1 name) ∙ sym c.find.ensures ∙ c.in-None.is in
    check_told (names (locals_of p.body) name) kinds.UnknownName p.owner (dollar name) 0 c.of_local.result (absent_names (locals_of p.body) name found)
    (subst (λ (q : Place). Tells (record { kind = kinds.UnknownName; owner = q.owner; name = dollar name; found = 0 }) c.of_local.result) c.self.view_is c.of_local.ensures)
