use Rattle.std.proofs.Common.{◌≡◌, [], List, ap₂, sym, subst}
use Rattle.hhbc_repo.specs.declared.parts.BodyParts.{BodyParts}
use Rattle.hhbc_repo.specs.declared.parts.ClassParts.{ClassParts}
use Rattle.hhbc_repo.specs.Checks.{Checks, TellsFirst}
use Rattle.hhbc_repo.specs.LinkFaults.{Whole, count_faults}
use Rattle.hhbc_repo.proofs.Checking.{checks_first, checks_then}
use Rattle.hhbc_repo.proofs.WithinLimits.{passed, told, few_classes}
use Rattle.hhbc_repo.proofs.linker.linked_parts.Goals as goal

abbrev whole : List BodyParts → List ClassParts → Whole
whole fs cs = record { functions = fs; classes = cs }

pub linked_in_limits-requires : goal.linked_in_limits-requires
linked_in_limits-requires c =
    let v = whole c.args.functions c.args.classes in
    let counted = subst (λ (u : Whole). Checks (count_faults u) tt c.check_counts.result) (ap₂ whole c.as_slice.ensures c.as_slice-2.ensures) c.check_counts.ensures in
    few_classes v (passed (count_faults v) tt _ c.check_counts.result c.in-Ok.is counted)

pub returns-in-Ok : goal.returns-in-Ok
returns-in-Ok c =
    let v = whole c.args.functions c.args.classes in
    let counted = subst (λ (u : Whole). Checks (count_faults u) tt c.check_counts.result) (ap₂ whole c.as_slice.ensures c.as_slice-2.ensures) c.check_counts.ensures in
    λ w is. checks_then (count_faults w) _ _ _
    (subst (λ (u : Whole). count_faults u ≡ []) (sym is) (passed (count_faults v) tt _ c.check_counts.result c.in-Ok.is counted)) (c.linked_in_limits.ensures w is)

pub returns-in-Err : goal.returns-in-Err
returns-in-Err c =
    let v = whole c.args.functions c.args.classes in
    let counted = subst (λ (u : Whole). Checks (count_faults u) tt c.check_counts.result) (ap₂ whole c.as_slice.ensures c.as_slice-2.ensures) c.check_counts.ensures in
    λ w is. checks_first (count_faults w) _ c.in-Err.error
    (subst (λ (u : Whole). TellsFirst (count_faults u) c.in-Err.error) (sym is) (told (count_faults v) tt c.in-Err.error c.check_counts.result c.in-Err.is counted))
