use Rattle.std.proofs.Common.{◌≡◌, ◌++◌, map, drop}
use Rattle.hhbc_repo.specs.declared.parts.ClassParts.{ClassParts}
use Rattle.hhbc_repo.specs.Bodies.{built_in_tree}
use Rattle.hhbc_repo.specs.LinkFaults.{parent_in}
use Rattle.hhbc_repo.proofs.known.all_parents.Given as goal

abbrev pub invariant-loop-class : goal.invariant-loop-class
invariant-loop-class l =
    l.all ++ map (λ (c : ClassParts). parent_in l.listed c.parent) (drop l.class-index l.classes) ≡ built_in_tree ++ map (λ (c : ClassParts). parent_in l.listed c.parent) l.classes
