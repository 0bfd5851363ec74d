use Rattle.std.proofs.Common.{◌≡◌, ◌++◌, ◌∷◌, [], drop}
use Rattle.hhbc_repo.specs.declared.repo.Class.{Class}
use Rattle.hhbc_repo.specs.LookUps.{method_names, no_names, function_names}
use Rattle.hhbc_repo.proofs.Numbered.{Listed}
use Rattle.hhbc_repo.proofs.members.methods_of.Given as goal

abbrev pub invariant-loop-class : goal.invariant-loop-class
invariant-loop-class l =
    (l.members.first ≡ l.first)
    × Listed (λ (c : Class). function_names c.methods) l.first (([] ∷ no_names) ++ method_names l.classes) l.members.names (drop l.class-index l.classes)
