use Rattle.std.proofs.Common.{◌≡◌, ◌++◌, [], map, drop}
use Rattle.hhbc_repo.specs.declared.parts.ClassParts.{ClassParts}
use Rattle.hhbc_repo.specs.LinkFaults.{methods}
use Rattle.hhbc_repo.proofs.known.all_methods.Given as goal

abbrev pub invariant-loop-class : goal.invariant-loop-class
invariant-loop-class l = l.all ++ map (λ (c : ClassParts). c.methods) (drop l.class-index l.classes) ≡ methods (record { functions = []; classes = l.classes })
