use Rattle.std.proofs.Common.{List, sym, subst}
use Rattle.hhbc_ops.specs.declared.op.Op.TheVariants as ops
use Rattle.hhbc_repo.specs.Checks.{TellsFirst}
use Rattle.hhbc_repo.specs.declared.parts.ImmParts.{ImmParts}
use Rattle.hhbc_repo.specs.LinkFaults.{Name, class_of, method_faults, instruction_faults}
use Rattle.hhbc_repo.proofs.scope.Scope.named_method.Goals as goal

pub returns-in-Err : goal.returns-in-Err
returns-in-Err c =
    let p = c.args.self.now in
    let e = c.in-Err.error in
    subst (λ (xs : List ImmParts). TellsFirst (instruction_faults p ops.FCallClsMethodD xs) e) (sym c.requires)
    (subst (λ (n : Name). TellsFirst (method_faults p n c.args.class.now c.args.count (class_of p.whole c.args.class.now)) e) c.bytes.ensures
    (subst (λ (k : Name). TellsFirst (method_faults p c.bytes.result.now k c.args.count (class_of p.whole k)) e) c.bytes-2.ensures c.in-Err.ensures))
