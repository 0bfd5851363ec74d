use Rattle.std.proofs.Common.{◌≡◌, ◌++◌, drop}
use Rattle.hhbc_repo.specs.declared.link_fault.LinkKind.TheVariants as kinds
use Rattle.hhbc_repo.specs.LinkFaults.{dollar, differ_from}
use Rattle.hhbc_repo.proofs.distinct_names.with_locals.Given as goal

abbrev pub invariant-loop-local : goal.invariant-loop-local
invariant-loop-local l =
    (differ_from kinds.DuplicateName l.owner dollar l.seen (drop l.local-index l.locals) ≡ differ_from kinds.DuplicateName l.owner dollar l.fn.start l.locals)
    × (l.seen ++ drop l.local-index l.locals ≡ l.fn.start ++ l.locals)
