use Rattle.std.proofs.Common.{◌≤◌, ◌-◌, ℕ, Some, Option, length, sym, ap, ◌∙◌, arith, rules, option_map}
use Rattle.std.proofs.lemmas.Option.{slice_get-get_or, slice_get_past}
use Rattle.type_lattice.specs.Classes.{flat}
use Rattle.hhbc_repo.specs.declared.repo.Class.{Class}
use Rattle.hhbc_repo.proofs.Inherited.{declared_parent}
use Rattle.hhbc_repo.proofs.look_ups.parent_in.Goals as goal

abbrev stated : Option Class → Option ℕ
stated o = flat (option_map (λ (k : Class). k.parent) o)

pub returns-in-None : goal.returns-in-None
returns-in-None c =
    let low : 6 ≤ c.args.class = search rules in
    let h = c.in-None.ensures.lookup.0 in
    let past : length c.args.classes.now ≤ c.args.class - 6 = grind (arith, h) in
    sym (declared_parent c.args.classes.now c.args.class low ∙ ap stated (slice_get_past c.args.classes.now (c.args.class - 6) past))

pub returns-in-Some : goal.returns-in-Some
returns-in-Some c =
    let low : 6 ≤ c.args.class = search rules in
    let h = c.in-Some.ensures.lookup in
    let class = c.in-Some.class.now in
    let there = slice_get-get_or c.args.classes.now (c.args.class - 6) class h.3.0 ∙ ap (λ (k : Class). Some k) (sym h.1) in
    sym (declared_parent c.args.classes.now c.args.class low ∙ ap stated there)
