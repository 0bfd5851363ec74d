use Rattle.std.proofs.Common.{◌≡◌, ◌≤◌, ◌+◌, ◌++◌, ◌∷◌, [], ℕ, List, Option, None, IfSome, sym, subst, ap, ◌∙◌}
use Rattle.type_lattice.specs.Classes.{Tree, chain, parent_of}
use Rattle.type_lattice.proofs.Chains.{chain_root, chain_shorter, chain_up}
use Rattle.hhbc_repo.specs.Bodies.{built_in_tree}
use Rattle.hhbc_repo.specs.LookUps.{parents_of_classes, total}
use Rattle.hhbc_repo.specs.Places.{place_here, place_up}
use Rattle.hhbc_repo.proofs.Placed.{chain_first, chain_sums, if_some, place_bound, sums}
use Rattle.hhbc_repo.proofs.property_places.find_place.Goals as goal

pub place_with-found-requires : goal.place_with-found-requires
place_with-found-requires c =
    let tree : Tree = built_in_tree ++ parents_of_classes c.args.classes.now in
    if_some c.loop-found.found _ _ (λ p h. chain_first tree c.requires.forest c.args.properties.now.names c.loop-found.at p h c.requires.fits) c.loop-found.invariant.1

pub loop-found-smaller : goal.loop-found-smaller
loop-found-smaller c =
    let tree : Tree = built_in_tree ++ parents_of_classes c.args.classes.now in
    chain_shorter tree c.requires.forest c.loop-found.at c.in-Some.parent (sym c.parent_in.ensures ∙ c.in-Some.is)

pub loop-found-preserved : goal.loop-found-preserved
loop-found-preserved c =
    let tree : Tree = built_in_tree ++ parents_of_classes c.args.classes.now in
    let table = c.args.properties.now.names in
    let name = c.args.name.now in
    let up = chain_up tree c.requires.forest c.loop-found.at c.in-Some.parent (sym c.parent_in.ensures ∙ c.in-Some.is) in (
      ap (λ (o : Option ℕ). place_up table name o (chain tree c.in-Some.parent)) c.place_with-found.ensures
          ∙ ap (place_up table name c.loop-found.found) (sym up)
          ∙ c.loop-found.invariant.0,
      subst (λ (o : Option ℕ). IfSome o (λ p. p + sums table (chain tree c.in-Some.parent) ≤ total table)) (sym c.place_with-found.ensures)
          (place_bound table name c.loop-found.found c.loop-found.at (chain tree c.in-Some.parent)
          (subst (λ (cs : List ℕ). IfSome c.loop-found.found (λ p. p + sums table cs ≤ total table)) up c.loop-found.invariant.1)
          (subst (λ (cs : List ℕ). sums table cs ≤ total table) up (chain_sums tree c.requires.forest table c.loop-found.at))),
    )

pub returns-in-None : goal.returns-in-None
returns-in-None c =
    let tree : Tree = built_in_tree ++ parents_of_classes c.args.classes.now in
    let table = c.args.properties.now.names in
    let name = c.args.name.now in
    c.place_with-found.ensures
    ∙ ap (place_up table name c.loop-found.found) (sym (chain_root tree c.requires.forest c.loop-found.at (sym c.parent_in.ensures ∙ c.in-None.is)))
    ∙ c.loop-found.invariant.0
