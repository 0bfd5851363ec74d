use Rattle.std.proofs.Common.{◌≡◌, List, Option, None, Some, MatchOption, ap, ap₂, subst, ◌∙◌}
use Rattle.type_lattice.specs.Classes.{Tree, chain}
use Rattle.hhbc_repo.specs.declared.parts.BodyParts.{BodyParts}
use Rattle.hhbc_repo.specs.LinkFaults.{along, methods, parents, with_name}
use Rattle.hhbc_repo.proofs.known.Known.method.Goals as goal

pub returns : goal.returns
returns c =
    subst (λ (o : Option BodyParts). MatchOption c.find_method.result (o ≡ None) (λ b. o ≡ Some b.now))
    (ap₂ (λ (ms : List (List BodyParts)) (t : Tree). with_name (along ms (chain t c.args.class)) c.args.name.now)
    (c.as_slice.ensures ∙ c.self.invariant.methods_are ∙ ap methods c.self.view_is)
    (c.as_slice-2.ensures ∙ c.self.invariant.tree_is ∙ ap parents c.self.view_is))
    c.find_method.ensures
