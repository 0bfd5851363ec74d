use Rattle.std.proofs.Common.{rules, ◌≡◌, []}
use Rattle.hhbc_repo.specs.Checks.{TellsFirst}
use Rattle.hhbc_repo.specs.LinkFaults.{repeated_functions, each_class, class_checks, member_checks, first_class}
use Rattle.hhbc_repo.proofs.Checking.{checks_first, tells_then}
use Rattle.hhbc_repo.proofs.linker.linked_known.Goals as goal

pub returns-in-Err : goal.returns-in-Err
returns-in-Err c =
    let w = c.args.known.now in
    let functions : TellsFirst (repeated_functions [] c.args.functions) c.in-Err.error = search rules in
    checks_first _ _ c.in-Err.error functions

pub returns-in-Err-check_classes : goal.returns-in-Err-check_classes
returns-in-Err-check_classes c =
    let w = c.args.known.now in
    let e = c.in-Err-check_classes.error in
    let functions : repeated_functions [] c.args.functions ≡ [] = search rules in
    let classes : TellsFirst (each_class (class_checks w) first_class c.args.classes) e = search rules in
    tells_then _ _ e functions (checks_first _ _ e classes)

pub returns-in-Err-check_members : goal.returns-in-Err-check_members
returns-in-Err-check_members c =
    let w = c.args.known.now in
    let e = c.in-Err-check_members.error in
    let functions : repeated_functions [] c.args.functions ≡ [] = search rules in
    let classes : each_class (class_checks w) first_class c.args.classes ≡ [] = search rules in
    let members : TellsFirst (each_class (member_checks w) first_class c.args.classes) e = search rules in
    tells_then _ _ e functions (tells_then _ _ e classes (checks_first _ _ e members))
