use Rattle.std.proofs.Common.{◌++◌, sym, ◌∙◌}
use Rattle.type_lattice.proofs.Chains.{chain_shorter}
use Rattle.hhbc_repo.specs.Bodies.{built_in_tree}
use Rattle.hhbc_repo.specs.LookUps.{parents_of_classes}
use Rattle.hhbc_repo.proofs.Inherited.{inherited_up}
use Rattle.hhbc_repo.proofs.look_ups.find_member.Goals as goal

pub loop-number-smaller : goal.loop-number-smaller
loop-number-smaller c =
    chain_shorter (built_in_tree ++ parents_of_classes c.args.classes.now) c.requires c.loop-number.at c.in-Some-parent_in.parent (sym c.parent_in.ensures ∙ c.in-Some-parent_in.is)

pub loop-number-preserved : goal.loop-number-preserved
loop-number-preserved c =
    c.loop-number.invariant
    ∙ inherited_up (built_in_tree ++ parents_of_classes c.args.classes.now) c.requires c.args.members.now.first c.args.members.now.names c.args.name.now c.loop-number.at c.in-Some-parent_in.parent (sym c.number.ensures ∙ c.in_default.is) (sym c.parent_in.ensures ∙ c.in-Some-parent_in.is)
