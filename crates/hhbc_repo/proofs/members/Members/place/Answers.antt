use Rattle.std.proofs.Common.{◌≡◌, ℕ, List, Option, Some, slice_get, sym, ap, ◌∙◌, arith}
use Rattle.std.proofs.lemmas.Option.{slice_get-get_or}
use Rattle.hhbc_repo.specs.declared.members.Row.{Row}
use Rattle.hhbc_repo.specs.LinkFaults.{at_class, place_in}
use Rattle.hhbc_repo.specs.MemberNames.{MemberNames}
use Rattle.hhbc_repo.proofs.Numbered.{number-fits, row-names}
use Rattle.hhbc_repo.proofs.NumbersPut.{place_inside}
use Rattle.hhbc_repo.proofs.members.Members.place.Goals as goal

row : (c : goal.In_ok-place) → slice_get c.self.inside.rows c.args.class ≡ Some c.in_ok-row.row.now
row c =
    let h = rw c.as_slice.ensures at c.in_ok-row.ensures.lookup in
    slice_get-get_or c.self.inside.rows c.args.class c.in_ok-row.row.now h.3.0 ∙ ap (λ (r : Row). Some r) (sym h.1)

pub overflow_cast-result : goal.overflow_cast-result
overflow_cast-result c =
    let f = number-fits c.self.inside.start c.self.inside.next c.self.inside.rows c.args.class c.in_ok-place.place c.in_ok-row.row.now c.self.invariant (row c)
    (place_inside c.in_ok-row.row.now.names c.args.name.now c.in_ok-place.place (sym c.in_ok-place.ensures)) in
    omega (arith, f)

pub returns : goal.returns
returns c =
    let there = ap (λ (m : MemberNames). slice_get m.names c.args.class) (sym c.self.view_is) ∙ row-names c.self.inside.rows c.args.class c.in_ok-row.row.now (row c) in
    c.in_ok-place.ensures ∙ ap (λ (o : Option (List (List ℕ))). place_in (at_class o) c.args.name.now) (sym there)
