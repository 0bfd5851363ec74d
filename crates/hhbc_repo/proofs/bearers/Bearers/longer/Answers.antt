use Rattle.std.proofs.Common.{◌<◌, ℕ, List, ◌++◌, ◌∷◌, [], length, ap, sym, subst, ◌∙◌}
use Rattle.hhbc_repo.specs.Bearers.{Bearers}
use Rattle.hhbc_repo.proofs.Borne.{set_count}
use Rattle.hhbc_repo.proofs.Elements.{slice_inside}
use Rattle.hhbc_repo.proofs.bearers.Bearers.longer.Goals as goal

pub invariant_of-result : goal.invariant_of-result
invariant_of-result c =
    let inside : c.args.at < length c.self.inside.numbers = subst (λ (t : Bearers). c.args.at < length t.numbers) (sym c.self.view_is) c.requires in
    let v = slice_inside c.self.inside.numbers c.args.at inside in
    c.self.invariant ∙ sym (set_count c.self.inside.numbers c.args.at (v.0 ++ c.args.number ∷ [])) ∙ ap (λ (l : List (List ℕ)). length l) (sym (c.in_ok-push_at.ensures v.0 v.1))
