use Rattle.std.proofs.Common.{◌≡◌, ◌++◌, map, take}
use Rattle.hhbc_repo.specs.declared.parts.ClassParts.{ClassParts}
use Rattle.hhbc_repo.specs.Bodies.{built_in_names}
use Rattle.hhbc_repo.proofs.listed.all_names.Given as goal

abbrev pub invariant-loop-class : goal.invariant-loop-class
invariant-loop-class l = l.names ≡ built_in_names ++ map (λ (c : ClassParts). c.name) (take l.class-index l.classes)
