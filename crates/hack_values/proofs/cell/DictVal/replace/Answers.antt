use Rattle.std.proofs.Common.{◌≡◌, Some, sym, subst, ◌∙◌}
use Rattle.std.proofs.lemmas.List.{length-set}
use Rattle.hack_values.specs.Known.{IsDictKnown}
use Rattle.hack_values.proofs.Knowns.{known-set_value}
use Rattle.hack_values.proofs.cell.DictVal.replace.Goals as goal

pub invariant_of-self : goal.invariant_of-self
invariant_of-self c =
    let ks = c.self.inside.keys in
    let cs = c.self.inside.vals.items in
    let value = c.replace-old.new.dest in (
      length-set cs c.args.at value ∙ c.self.invariant.0,
      c.self.invariant.1,
      λ x e. known-set_value x ks cs c.args.at value (subst (λ es. (x.but ≡ Some c.args.at) × IsDictKnown es x) (sym c.self.view_is) (c.known_but-self-inside.ensures x e)),
    )

pub invariant_of-self-2 : goal.invariant_of-self-2
invariant_of-self-2 c =
    let ks = c.self.inside.keys in
    let cs = c.self.inside.vals.items in
    let value = c.replace-old.new.dest in (
      length-set cs c.args.at value ∙ c.self.invariant.0,
      c.self.invariant.1,
      λ x e. known-set_value x ks cs c.args.at value (subst (λ es. (x.but ≡ Some c.args.at) × IsDictKnown es x) (sym c.self.view_is) (c.known_but-self-inside.ensures x e)),
    )
