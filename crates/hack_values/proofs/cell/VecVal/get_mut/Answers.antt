use Rattle.std.proofs.Common.{◌∙◌, ap, rules, slice_set}
use Rattle.hack_values.specs.View.{val_of, item-vals}
use Rattle.hack_values.proofs.Rows.{vals-set, length-vals, lent}
use Rattle.hack_values.proofs.Knowns.{known-set}
use Rattle.hack_values.proofs.cell.VecVal.get_mut.Goals as goal

pub returns : goal.returns
returns c = (
  lent _ (λ w. vals-set c.self.inside.items.items c.args.at w ∙ ap (λ l. slice_set l c.args.at (val_of w)) c.self.view_is) c.self.view_is,
  rw (← c.self.view_is) (search (rules, length-vals, item-vals)),
)

pub invariant_of-self-lent : goal.invariant_of-self-lent
invariant_of-self-lent c lent =
    let known = c.known_but-self-inside.ensures in (
      λ w x e. known-set x c.self.inside.items.items c.args.at w (known x e),
      λ x e. (known x e).1,
    )
