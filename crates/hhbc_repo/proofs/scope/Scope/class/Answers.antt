use Rattle.std.proofs.Common.{◌≡◌, None, is_some, sym, ap, ◌∙◌, subst}
use Rattle.hhbc_repo.specs.Checks.{Tells}
use Rattle.hhbc_repo.specs.LinkFaults.{Place, Whole, class_of}
use Rattle.hhbc_repo.specs.declared.link_fault.LinkKind.TheVariants as kinds
use Rattle.hhbc_repo.proofs.Checking.{check_told}
use Rattle.hhbc_repo.proofs.scope.Scope.class.Goals as goal

pub returns-in-None : goal.returns-in-None
returns-in-None c =
    let p = c.args.self.now in
    let name = c.args.name.now in
    let absent : class_of p.whole name ≡ None =
    ap (λ (q : Place). class_of q.whole name) (sym c.self.view_is) ∙ ap (λ (w : Whole). class_of w name) (sym c.listed.ensures) ∙ sym c.class_of.ensures ∙ c.in-None.is in
    check_told (is_some (class_of p.whole name)) kinds.UnknownName p.owner name 0 c.unknown.result (ap is_some absent)
    (subst (λ (q : Place). Tells (record { kind = kinds.UnknownName; owner = q.owner; name = name; found = 0 }) c.unknown.result) c.self.view_is c.unknown.ensures)
