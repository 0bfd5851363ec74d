use Rattle.std.proofs.Common.{◌≡◌, ◌++◌, ◌∷◌, [], drop, map, codes}
use Rattle.hhbc_repo.specs.declared.repo.Class.{Class}
use Rattle.hhbc_repo.specs.declared.repo.Property.{Property}
use Rattle.hhbc_repo.specs.LookUps.{property_names, no_names}
use Rattle.hhbc_repo.proofs.Numbered.{Listed}
use Rattle.hhbc_repo.proofs.members.properties_of.Given as goal

abbrev pub invariant-loop-class : goal.invariant-loop-class
invariant-loop-class l =
    (l.members.first ≡ 0)
    × Listed (λ (c : Class). map (λ (p : Property). p.name) c.props) 0 (((codes "message" ∷ []) ∷ no_names) ++ property_names l.classes) l.members.names (drop l.class-index l.classes)
