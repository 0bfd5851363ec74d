use Rattle.std.proofs.Common.{◌++◌, List, ap, ◌∙◌}
use Rattle.hhbc_repo.specs.declared.repo.Class.{Class}
use Rattle.hhbc_repo.specs.Linked.{Linked}
use Rattle.hhbc_repo.specs.MemberNames.{MemberNames}
use Rattle.hhbc_repo.specs.Bodies.{built_in_tree}
use Rattle.hhbc_repo.specs.LookUps.{inherited, method_of, parents_of_classes}
use Rattle.hhbc_repo.proofs.MethodsFound.{method_means}
use Rattle.hhbc_repo.proofs.repo.Repo.method_of.Goals as goal

pub returns-clause-value : goal.returns-clause-value
returns-clause-value c =
    let found = λ (m : MemberNames) (cs : List Class). inherited m.first m.names (built_in_tree ++ parents_of_classes cs) c.args.class c.args.name.now in
    c.find_member.ensures
    ∙ ap (found c.self.inside.methods) c.as_slice.ensures
    ∙ ap (λ (m : MemberNames). found m c.self.inside.classes) c.self.invariant.methods_are
    ∙ ap (λ (l : Linked). method_of l c.args.class c.args.name.now) c.self.view_is

pub returns-clause-meaning : goal.returns-clause-meaning
returns-clause-meaning c = method_means c.args.self.now c.args.class c.args.name.now c.find_member.result (returns-clause-value c)
