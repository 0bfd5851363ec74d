use Rattle.std.proofs.Common.{rules, ◌≡◌, ℕ, List, [], map}
use Rattle.hhbc_repo.specs.Checks.{Checks, TellsFirst}
use Rattle.hhbc_repo.specs.LinkFaults.{Whole, along, ancestors, as_it_is, differ_from, properties, property_checks}
use Rattle.hhbc_repo.specs.declared.link_fault.LinkFault.{LinkFault}
use Rattle.hhbc_repo.specs.declared.link_fault.LinkKind.TheVariants as kinds
use Rattle.hhbc_repo.specs.declared.repo.Const.{Const}
use Rattle.hhbc_repo.specs.declared.parts.BodyParts.{BodyParts}
use Rattle.hhbc_repo.specs.declared.parts.ClassParts.{ClassParts}
use Rattle.hhbc_repo.proofs.Checking.{checks_first, checks_then, tells_then}
use Rattle.hhbc_repo.proofs.member_checks.check_class_members.Goals as goal

abbrev of_consts : ClassParts → List LinkFault
of_consts class = differ_from kinds.DuplicateName class.name as_it_is [] (map (λ (k : Const). k.name) class.consts)

abbrev of_properties : Whole → ℕ → ClassParts → List LinkFault
of_properties w n class = property_checks w class.name (along (properties w) (ancestors w n)) class.props

abbrev of_methods : ClassParts → List LinkFault
of_methods class = differ_from kinds.DuplicateName class.name as_it_is [] (map (λ (b : BodyParts). b.name) class.methods)

pub returns-in-Ok-check_properties : goal.returns-in-Ok-check_properties
returns-in-Ok-check_properties c =
    let class = c.args.class.now in
    let consts : of_consts class ≡ [] = search rules in
    let properties : of_properties c.args.known.now c.args.number class ≡ [] = search rules in
    let methods : Checks (of_methods class) tt c.check_methods.result = search rules in
    checks_then _ _ tt c.check_methods.result consts (checks_then _ _ tt c.check_methods.result properties methods)

pub returns-in-Err-check_properties : goal.returns-in-Err-check_properties
returns-in-Err-check_properties c =
    let class = c.args.class.now in
    let e = c.in-Err-check_properties.error in
    let consts : of_consts class ≡ [] = search rules in
    let properties : TellsFirst (of_properties c.args.known.now c.args.number class) e = search rules in
    tells_then _ _ e consts (checks_first _ _ e properties)

pub returns-in-Err : goal.returns-in-Err
returns-in-Err c =
    let consts : TellsFirst (of_consts c.args.class.now) c.in-Err.error = search rules in
    checks_first _ _ c.in-Err.error consts
