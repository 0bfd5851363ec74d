use Rattle.std.proofs.Common.{rules, ◌≡◌, []}
use Rattle.hhbc_repo.specs.declared.link_fault.LinkKind.TheVariants as kinds
use Rattle.hhbc_repo.specs.Checks.{TellsFirst}
use Rattle.hhbc_repo.specs.LinkFaults.{as_it_is, differ_from, dollar, labels_of, locals_of}
use Rattle.hhbc_repo.proofs.Checking.{checks_first, tells_then}
use Rattle.hhbc_repo.proofs.link_bodies.linked_in_limits.Goals as goal

pub returns-in-Err : goal.returns-in-Err
returns-in-Err c =
    let locals : TellsFirst (differ_from kinds.DuplicateName c.args.owner.now dollar [] (locals_of c.args.body.now)) c.in-Err.error = search rules in
    checks_first _ _ c.in-Err.error locals

pub returns-in-Err-check_labels : goal.returns-in-Err-check_labels
returns-in-Err-check_labels c =
    let e = c.in-Err-check_labels.error in
    let locals : differ_from kinds.DuplicateName c.args.owner.now dollar [] (locals_of c.args.body.now) ≡ [] = search rules in
    let labels : TellsFirst (differ_from kinds.DuplicateLabel c.args.owner.now as_it_is [] (labels_of c.args.body.now)) e = search rules in
    tells_then _ _ e locals (checks_first _ _ e labels)
