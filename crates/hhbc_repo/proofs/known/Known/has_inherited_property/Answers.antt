use Rattle.std.proofs.Common.{ℕ, List, Option, sym, ap, ap₂, ◌∙◌}
use Rattle.type_lattice.specs.Classes.{Tree, chain, parent_of}
use Rattle.hhbc_repo.specs.LinkFaults.{Whole, above, along, names, parents, properties}
use Rattle.hhbc_repo.specs.Once.{property_tables}
use Rattle.hhbc_repo.proofs.FoundByName.{along_properties}
use Rattle.hhbc_repo.proofs.known.Known.has_inherited_property.Goals as goal

pub returns-in-Some : goal.returns-in-Some
returns-in-Some c =
    let w = c.args.self.now in
    let tree = c.self.invariant.tree_is ∙ ap parents c.self.view_is in
    let up = ap (λ (t : Tree). parent_of t c.args.class) (sym (c.as_slice.ensures ∙ tree)) ∙ sym c.parent_in.ensures ∙ c.in-Some.is in
    c.declares.ensures
    ∙ ap₂ (λ (ts : List (List (List ℕ))) (t : Tree). names (along ts (chain t c.in-Some.parent)) c.args.name.now)
    (c.as_slice-in-Some.ensures ∙ c.self.invariant.properties_are ∙ ap (λ (w : Whole). property_tables w.classes) c.self.view_is)
    (c.as_slice-in-Some-2.ensures ∙ tree)
    ∙ along_properties w (chain (parents w) c.in-Some.parent) c.args.name.now
    ∙ ap (λ (o : Option ℕ). names (along (properties w) (above (parents w) o)) c.args.name.now) (sym up)
