use Rattle.std.proofs.Common.{◌∙◌, ap, rules}
use Rattle.std.proofs.lemmas.List.{length-set}
use Rattle.hack_values.proofs.Knowns.{known-set_value}
use Rattle.hack_values.specs.View.{val_of, item-vals}
use Rattle.hack_values.specs.Keys.{set_value}
use Rattle.hack_values.proofs.Rows.{set-entries, length-vals, length-entries, values-entries, lent}
use Rattle.hack_values.proofs.cell.DictVal.value_mut.Goals as goal

pub returns : goal.returns
returns c = (
  lent _ (λ w. set-entries c.self.inside.keys c.self.inside.vals.items c.args.at w ∙ ap (λ l. set_value l c.args.at (val_of w)) c.self.view_is) c.self.view_is,
  rw (← c.self.view_is)
      (search (rules, length-entries c.self.inside.keys c.self.inside.vals.items c.self.invariant.0, values-entries c.self.inside.keys c.self.inside.vals.items c.self.invariant.0, length-vals, item-vals)),
)

pub invariant_of-self-lent : goal.invariant_of-self-lent
invariant_of-self-lent c lent =
    let ks = c.self.inside.keys in
    let cs = c.self.inside.vals.items in
    let known = c.known_but-self-inside.ensures in (
      λ w. (length-set cs c.args.at w ∙ c.self.invariant.0, c.self.invariant.1, λ x e. known-set_value x ks cs c.args.at w (known x e)),
      (c.self.invariant.0, c.self.invariant.1, λ x e. (known x e).1),
    )
