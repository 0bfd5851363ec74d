use Rattle.std.proofs.Common.{◌++◌, List, ap, ◌∙◌}
use Rattle.hhbc_repo.specs.declared.repo.Class.{Class}
use Rattle.hhbc_repo.specs.Linked.{Linked}
use Rattle.hhbc_repo.specs.MemberNames.{MemberNames}
use Rattle.hhbc_repo.specs.Bodies.{built_in_tree}
use Rattle.hhbc_repo.specs.LookUps.{inherited, property_of, parents_of_classes}
use Rattle.hhbc_repo.proofs.repo.Repo.property_of.Goals as goal

pub returns : goal.returns
returns c =
    let found = λ (m : MemberNames) (cs : List Class). inherited m.first m.names (built_in_tree ++ parents_of_classes cs) c.args.class c.args.name.now in
    c.find_member.ensures
    ∙ ap (found c.self.inside.properties) c.as_slice.ensures
    ∙ ap (λ (m : MemberNames). found m c.self.inside.classes) c.self.invariant.properties_are
    ∙ ap (λ (l : Linked). property_of l c.args.class c.args.name.now) c.self.view_is
