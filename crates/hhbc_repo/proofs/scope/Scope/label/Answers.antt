use Rattle.std.proofs.Common.{◌≡◌, Some, None, sym, ap, ◌∙◌, subst}
use Rattle.hhbc_repo.specs.Checks.{Tells}
use Rattle.hhbc_repo.specs.LabelTables.{first_label}
use Rattle.hhbc_repo.specs.LinkFaults.{Place, labels_of, names}
use Rattle.hhbc_repo.specs.declared.link_fault.LinkKind.TheVariants as kinds
use Rattle.hhbc_repo.proofs.Checking.{check_told, check_passes}
use Rattle.hhbc_repo.proofs.LabelsFound.{unlabelled, labelled, label_place}
use Rattle.hhbc_repo.proofs.scope.Scope.label.Goals as goal

pub returns-in-Some : goal.returns-in-Some
returns-in-Some c =
    let p = c.args.self.now in
    let name = c.args.name.now in
    let found : first_label 0 p.body.items name ≡ Some c.in-Some.number =
    ap (λ (q : Place). first_label 0 q.body.items name) (sym c.self.view_is) ∙ sym (c.self.invariant.1.1 name) ∙ sym c.find.ensures ∙ c.in-Some.is in
    (check_passes (names (labels_of p.body) name) kinds.UnknownLabel p.owner name 0 (labelled p.body.items 0 c.in-Some.number name found), sym (label_place p.body.items 0 c.in-Some.number name found))

pub returns-in-None : goal.returns-in-None
returns-in-None c =
    let p = c.args.self.now in
    let name = c.args.name.now in
    let found : first_label 0 p.body.items name ≡ None =
    ap (λ (q : Place). first_label 0 q.body.items name) (sym c.self.view_is) ∙ sym (c.self.invariant.1.1 name) ∙ sym c.find.ensures ∙ c.in-None.is in
    check_told (names (labels_of p.body) name) kinds.UnknownLabel p.owner name 0 c.plain.result (unlabelled p.body.items 0 name found)
    (subst (λ (q : Place). Tells (record { kind = kinds.UnknownLabel; owner = q.owner; name = name; found = 0 }) c.plain.result) c.self.view_is c.plain.ensures)
