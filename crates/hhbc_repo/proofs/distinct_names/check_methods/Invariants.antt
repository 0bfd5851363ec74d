use Rattle.std.proofs.Common.{◌≡◌, [], drop, map}
use Rattle.hhbc_repo.specs.declared.parts.BodyParts.{BodyParts}
use Rattle.hhbc_repo.specs.declared.link_fault.LinkKind.TheVariants as kinds
use Rattle.hhbc_repo.specs.LinkFaults.{as_it_is, differ_from}
use Rattle.hhbc_repo.proofs.distinct_names.check_methods.Given as goal

abbrev pub invariant-loop-method : goal.invariant-loop-method
invariant-loop-method l =
    differ_from kinds.DuplicateName l.owner as_it_is l.seen (map (λ (b : BodyParts). b.name) (drop l.method-index l.methods))
    ≡ differ_from kinds.DuplicateName l.owner as_it_is [] (map (λ (b : BodyParts). b.name) l.methods)
