use Rattle.std.proofs.Common.{◌≡◌, ◌<◌, ◌^◌, ◌+◌, Some, slice_get, sym, ap, ◌∙◌, arith}
use Rattle.std.proofs.lemmas.Option.{slice_get-get_or}
use Rattle.hhbc_repo.specs.declared.members.Row.{Row}
use Rattle.hhbc_repo.specs.MemberNames.{MemberNames}
use Rattle.hhbc_repo.specs.LookUps.{own_number}
use Rattle.hhbc_repo.proofs.Numbered.{own-found, number-fits}
use Rattle.hhbc_repo.proofs.NumbersPut.{place_inside}
use Rattle.hhbc_repo.proofs.members.Members.number.Goals as goal

row : (c : goal.In_ok-place) → slice_get c.self.inside.rows c.args.class ≡ Some c.in_ok-row.row.now
row c =
    let h = rw c.as_slice.ensures at c.in_ok-row.ensures.lookup in
    slice_get-get_or c.self.inside.rows c.args.class c.in_ok-row.row.now h.3.0 ∙ ap (λ (r : Row). Some r) (sym h.1)

fits : (c : goal.In_ok-place) → c.in_ok-row.row.now.first + c.in_ok-place.place < 2 ^ 32
fits c = number-fits c.self.inside.start c.self.inside.next c.self.inside.rows c.args.class c.in_ok-place.place c.in_ok-row.row.now c.self.invariant (row c)
    (place_inside c.in_ok-row.row.now.names c.args.name.now c.in_ok-place.place (sym c.in_ok-place.ensures))

pub overflow_cast-result : goal.overflow_cast-result
overflow_cast-result c = let f = fits c in omega (arith, f)

pub overflow_add-result : goal.overflow_add-result
overflow_add-result c = let f = fits c in omega (arith, f)

pub returns : goal.returns
returns c = sym (ap (λ (m : MemberNames). own_number m.first m.names c.args.name.now c.args.class) (sym c.self.view_is)
    ∙ own-found c.self.inside.start c.self.inside.next c.self.inside.rows c.args.class c.in_ok-place.place c.in_ok-row.row.now c.args.name.now c.self.invariant (row c) (sym c.in_ok-place.ensures))
