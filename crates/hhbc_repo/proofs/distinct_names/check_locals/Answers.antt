use Rattle.std.proofs.Common.{◌++◌, List, refl, sym, subst, ◌∙◌}
use Rattle.hhbc_repo.specs.declared.link_fault.LinkFault.{LinkFault}
use Rattle.hhbc_repo.specs.declared.link_fault.LinkKind.TheVariants as kinds
use Rattle.hhbc_repo.specs.Checks.{TellsFirst}
use Rattle.hhbc_repo.specs.LinkFaults.{differ_from, dollar}
use Rattle.hhbc_repo.proofs.Checking.{checks_first, tells_then, both_pass}
use Rattle.hhbc_repo.proofs.NamesMet.{differ_split}
use Rattle.hhbc_repo.proofs.distinct_names.check_locals.Goals as goal

pub returns-in-Ok-with_locals : goal.returns-in-Ok-with_locals
returns-in-Ok-with_locals c =
    let of = differ_from kinds.DuplicateName c.args.owner.now dollar in
    let split = differ_split kinds.DuplicateName c.args.owner.now dollar c.new.result c.in-Ok.seen c.args.params.now c.args.locals.now c.new.ensures c.in-Ok.ensures.1 in
    (sym split ∙ both_pass (of c.new.result c.args.params.now) (of c.in-Ok.seen c.args.locals.now) c.in-Ok.ensures.0 c.in-Ok-with_locals.ensures.0, refl)

pub returns-in-Err-with_locals : goal.returns-in-Err-with_locals
returns-in-Err-with_locals c =
    let of = differ_from kinds.DuplicateName c.args.owner.now dollar in
    let split = differ_split kinds.DuplicateName c.args.owner.now dollar c.new.result c.in-Ok.seen c.args.params.now c.args.locals.now c.new.ensures c.in-Ok.ensures.1 in
    let e = c.in-Err-with_locals.error in
    subst (λ (l : List LinkFault). TellsFirst l e) split (tells_then (of c.new.result c.args.params.now) (of c.in-Ok.seen c.args.locals.now) e c.in-Ok.ensures.0 c.in-Err-with_locals.ensures)

pub returns-in-Err : goal.returns-in-Err
returns-in-Err c =
    let of = differ_from kinds.DuplicateName c.args.owner.now dollar in
    let met = c.new.result ++ c.args.params.now in
    let split = differ_split kinds.DuplicateName c.args.owner.now dollar c.new.result met c.args.params.now c.args.locals.now c.new.ensures refl in
    let e = c.in-Err.error in
    subst (λ (l : List LinkFault). TellsFirst l e) split (checks_first (of c.new.result c.args.params.now) (of met c.args.locals.now) e c.in-Err.ensures)
