use Rattle.std.proofs.Common.{◌≤◌, ℕ, List, Option, Some, length, sym, ap, ◌∙◌, arith}
use Rattle.std.proofs.lemmas.Option.{slice_get-get_or, slice_get_past}
use Rattle.hhbc_repo.specs.LinkFaults.{at_class, names}
use Rattle.hhbc_repo.proofs.known.declares_itself.Goals as goal

pub returns-in-Some : goal.returns-in-Some
returns-in-Some c =
    let h = c.in-Some.ensures.lookup in
    let table = c.in-Some.table.now in
    let there = slice_get-get_or c.args.tables.now c.args.class table h.3.0 ∙ ap (λ (ns : List (List ℕ)). Some ns) (sym h.1) in
    c.contains.ensures ∙ sym (ap (λ (o : Option (List (List ℕ))). names (at_class o) c.args.name.now) there)

pub returns-in-None : goal.returns-in-None
returns-in-None c =
    let h = c.in-None.ensures.lookup.0 in
    let past : length c.args.tables.now ≤ c.args.class = grind (arith, h) in
    sym (ap (λ (o : Option (List (List ℕ))). names (at_class o) c.args.name.now) (slice_get_past c.args.tables.now c.args.class past))
