use Rattle.std.proofs.Common.{◌≡◌, ◌<◌, ℕ, List, Some, length, slice_get, ap, sym, subst, ◌∙◌, arith}
use Rattle.std.proofs.lemmas.Option.{slice_get-get_or}
use Rattle.hhbc_repo.specs.Linked.{Linked}
use Rattle.hhbc_repo.specs.LookUps.{all_properties, property_owners, total}
use Rattle.hhbc_repo.proofs.Placed.{owners_count}
use Rattle.hhbc_repo.proofs.repo.Repo.owner_of.Goals as goal

inside : (owners : List ℕ) (r : Linked) (n : ℕ) → owners ≡ property_owners r → n < total (all_properties r) → n < length owners
inside owners r n e h = let l = ap (λ (xs : List ℕ). length xs) e in let k = owners_count 0 (all_properties r) in omega (arith, l, k, h)

pub bounds-as_slice-property : goal.bounds-as_slice-property
bounds-as_slice-property c = inside c.as_slice.result.now c.args.self.now c.args.property (c.as_slice.ensures ∙ c.self.invariant.owners_are ∙ ap property_owners c.self.view_is) c.requires

pub returns : goal.returns
returns c =
    let e = c.as_slice.ensures ∙ c.self.invariant.owners_are ∙ ap property_owners c.self.view_is in
    ap (λ (xs : List ℕ). slice_get xs c.args.property) (sym e) ∙ slice_get-get_or c.as_slice.result.now c.args.property 0 (inside c.as_slice.result.now c.args.self.now c.args.property e c.requires)
