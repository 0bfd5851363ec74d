use Rattle.hhbc_repo.specs.declared.repo.Const.{Const}
use Rattle.hhbc_repo.specs.LinkFaults.{as_it_is}
use Rattle.hhbc_repo.specs.declared.link_fault.LinkKind.TheVariants as kinds
use Rattle.hhbc_repo.proofs.NamesMet.{differ_stops}
use Rattle.hhbc_repo.proofs.distinct_names.check_consts.Goals as goal

pub returns-in-Err : goal.returns-in-Err
returns-in-Err c =
    differ_stops kinds.DuplicateName c.args.owner.now as_it_is (λ (k : Const). k.name) c.loop-constant.seen c.args.consts.now c.loop-constant.constant-index c.constant-item.result
    c.constant-item.result c.bytes.result.now _ c.in-Err.error c.loop-constant-test.true c.constant-item.is c.bytes.ensures c.loop-constant.invariant c.in-Err.ensures
