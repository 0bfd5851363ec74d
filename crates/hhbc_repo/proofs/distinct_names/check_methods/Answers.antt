use Rattle.hhbc_repo.specs.declared.parts.BodyParts.{BodyParts}
use Rattle.hhbc_repo.specs.LinkFaults.{as_it_is}
use Rattle.hhbc_repo.specs.declared.link_fault.LinkKind.TheVariants as kinds
use Rattle.hhbc_repo.proofs.NamesMet.{differ_stops}
use Rattle.hhbc_repo.proofs.distinct_names.check_methods.Goals as goal

pub returns-in-Err : goal.returns-in-Err
returns-in-Err c =
    differ_stops kinds.DuplicateName c.args.owner.now as_it_is (λ (b : BodyParts). b.name) c.loop-method.seen c.args.methods.now c.loop-method.method-index c.method-item.result
    c.method-item.result c.bytes.result.now _ c.in-Err.error c.loop-method-test.true c.method-item.is c.bytes.ensures c.loop-method.invariant c.in-Err.ensures
