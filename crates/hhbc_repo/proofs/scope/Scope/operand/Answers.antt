use Rattle.std.proofs.Common.{◌++◌, option_map, sym, subst}
use Rattle.hhbc_repo.specs.Checks.{Checks, TellsFirst}
use Rattle.hhbc_repo.specs.declared.code.Imm.TheVariants as imms
use Rattle.hhbc_repo.specs.declared.parts.ImmParts.{ImmParts}
use Rattle.hhbc_repo.specs.LinkFaults.{Name, class_faults, key_local, local_faults, operand_faults}
use Rattle.hhbc_repo.specs.Resolved.{local_number, resolved_operand}
use Rattle.hhbc_repo.proofs.scope.Scope.operand.Goals as goal

pub returns-in-Err-class : goal.returns-in-Err-class
returns-in-Err-class c =
    let p = c.args.self.now in
    let e = c.in-Err-class.error in
    subst (λ (i : ImmParts). TellsFirst (operand_faults p i) e) (sym c.in-Class.is)
    (subst (λ (n : Name). TellsFirst (class_faults p.whole p.owner n) e) c.bytes-in-Class.ensures c.in-Err-class.ensures)

pub returns-in-IterLocals : goal.returns-in-IterLocals
returns-in-IterLocals c =
    let p = c.args.self.now in
    let r = c.iterator_locals.result in
    let key = c.in-IterLocals.key in
    subst (λ (i : ImmParts). Checks (operand_faults p i) (resolved_operand p.whole p.body i) r) (sym c.in-IterLocals.is)
    (subst (λ (n : Name). Checks (key_local p key ++ local_faults p n) (imms.IterLocals (option_map (local_number p.body) key) (local_number p.body n)) r) c.bytes-in-IterLocals.ensures c.iterator_locals.ensures)
