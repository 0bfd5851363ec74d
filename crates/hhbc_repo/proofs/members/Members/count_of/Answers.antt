use Rattle.std.proofs.Common.{◌≡◌, ◌≤◌, ℕ, List, Option, None, Some, length, option_map, slice_get, sym, ap, ◌∙◌, arith}
use Rattle.std.proofs.lemmas.Option.{slice_get-get_or, slice_get-map, slice_get_past}
use Rattle.hhbc_repo.specs.declared.members.Row.{Row}
use Rattle.hhbc_repo.specs.LinkFaults.{at_class}
use Rattle.hhbc_repo.specs.MemberNames.{MemberNames}
use Rattle.hhbc_repo.proofs.Numbered.{row-bound, row-names}
use Rattle.hhbc_repo.proofs.members.Members.count_of.Goals as goal

row : (c : goal.After-len) → slice_get c.self.inside.rows c.args.class ≡ Some c.in-Some.row.now
row c =
    let h = rw c.as_slice.ensures at c.in-Some.ensures.lookup in
    slice_get-get_or c.self.inside.rows c.args.class c.in-Some.row.now h.3.0 ∙ ap (λ (r : Row). Some r) (sym h.1)

pub overflow_cast-result : goal.overflow_cast-result
overflow_cast-result c =
    let b = row-bound c.self.inside.start c.self.inside.rows c.args.class c.in-Some.row.now c.self.invariant.firsts (row c) in
    let l = c.self.invariant.last in
    let f = c.self.invariant.fits in
    let e = c.len.ensures in
    omega (arith, b, l, f, e)

pub returns-in-Some : goal.returns-in-Some
returns-in-Some c =
    let there = ap (λ (m : MemberNames). slice_get m.names c.args.class) (sym c.self.view_is) ∙ row-names c.self.inside.rows c.args.class c.in-Some.row.now (row c) in
    c.len.ensures ∙ ap (λ (o : Option (List (List ℕ))). length (at_class o)) (sym there)

pub returns-in-None : goal.returns-in-None
returns-in-None c =
    let h = c.in-None.ensures.lookup.0 in
    let e = ap (λ (l : List Row). length l) c.as_slice.ensures in
    let past : length c.self.inside.rows ≤ c.args.class = grind (arith, h, e) in
    let there = ap (λ (m : MemberNames). slice_get m.names c.args.class) (sym c.self.view_is)
    ∙ slice_get-map (λ (r : Row). r.names) c.self.inside.rows c.args.class
    ∙ ap (option_map (λ (r : Row). r.names)) (slice_get_past c.self.inside.rows c.args.class past) in
    ap (λ (o : Option (List (List ℕ))). length (at_class o)) (sym there)
