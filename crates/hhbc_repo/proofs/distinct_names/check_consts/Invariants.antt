use Rattle.std.proofs.Common.{◌≡◌, [], drop, map}
use Rattle.hhbc_repo.specs.declared.repo.Const.{Const}
use Rattle.hhbc_repo.specs.declared.link_fault.LinkKind.TheVariants as kinds
use Rattle.hhbc_repo.specs.LinkFaults.{as_it_is, differ_from}
use Rattle.hhbc_repo.proofs.distinct_names.check_consts.Given as goal

abbrev pub invariant-loop-constant : goal.invariant-loop-constant
invariant-loop-constant l =
    differ_from kinds.DuplicateName l.owner as_it_is l.seen (map (λ (k : Const). k.name) (drop l.constant-index l.consts))
    ≡ differ_from kinds.DuplicateName l.owner as_it_is [] (map (λ (k : Const). k.name) l.consts)
