use Rattle.std.proofs.Common.{◌++◌, List, None, ap, ◌∙◌}
use Rattle.type_lattice.specs.Classes.{chain}
use Rattle.hhbc_repo.specs.declared.repo.Class.{Class}
use Rattle.hhbc_repo.specs.Linked.{Linked}
use Rattle.hhbc_repo.specs.MemberNames.{MemberNames}
use Rattle.hhbc_repo.specs.Bodies.{built_in_tree, tree_of}
use Rattle.hhbc_repo.specs.LookUps.{parents_of_classes}
use Rattle.hhbc_repo.specs.Places.{place_of, place_up}
use Rattle.hhbc_repo.proofs.Placed.{place_found}
use Rattle.hhbc_repo.proofs.repo.Repo.place_of.Goals as goal

pub returns : goal.returns
returns c =
    let r : Linked = record { functions = c.self.inside.functions; classes = c.self.inside.classes } in
    let name = c.args.name.now in
    c.find_place.ensures
    ∙ ap (λ (cs : List Class). place_up c.self.inside.properties.names name None (chain (built_in_tree ++ parents_of_classes cs) c.args.class)) c.as_slice.ensures
    ∙ ap (λ (m : MemberNames). place_up m.names name None (chain (tree_of r) c.args.class)) c.self.invariant.properties_are
    ∙ place_found r c.self.invariant.sound.forest c.args.class name
    ∙ ap (λ (l : Linked). place_of l c.args.class name) c.self.view_is
