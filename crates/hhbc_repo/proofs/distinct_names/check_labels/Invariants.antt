use Rattle.std.proofs.Common.{◌≡◌, [], drop}
use Rattle.std.specs.List.{flat_map}
use Rattle.hhbc_repo.specs.declared.link_fault.LinkKind.TheVariants as kinds
use Rattle.hhbc_repo.specs.LinkFaults.{as_it_is, differ_from, label_of}
use Rattle.hhbc_repo.proofs.distinct_names.check_labels.Given as goal

abbrev pub invariant-loop-item : goal.invariant-loop-item
invariant-loop-item l =
    differ_from kinds.DuplicateLabel l.owner as_it_is l.seen (flat_map label_of (drop l.item-index l.items)) ≡ differ_from kinds.DuplicateLabel l.owner as_it_is [] (flat_map label_of l.items)
