use Rattle.std.proofs.Common.{◌≡◌, arith, ap, subst, slice_index_or}
use Rattle.std.proofs.lemmas.Grind.{common_steps}
use Rattle.std.specs.List.{zip}
use Rattle.hack_values.specs.Val.{weights, entry_weights}
use Rattle.hack_values.specs.View.{val_of, vals_of}
use Rattle.hack_values.proofs.Rows.{entry-at, entry-weights, length-entries}
use Rattle.hack_values.proofs.Knowns.{without-none, without-past, without-beyond, weights-without, entry_weights-without}
use Rattle.hack_values.proofs.cell.+weight.Goals as goal

pub DictVal::weight-returns : goal.DictVal::weight-returns
DictVal::weight-returns t c = rw (← c.self.view_is, entry-weights c.self.inside.keys c.self.inside.vals.items c.self.invariant.0) (grind (arith, common_steps))

pub VecVal::weight-returns-in-None : goal.VecVal::weight-returns-in-None
VecVal::weight-returns-in-None t c =
    let k = c.in-Some.known in
    let all = ap weights (without-none k.but (vals_of c.self.inside.items.items) c.in-None.is) in
    rw (← c.self.view_is) (omega (arith, (c.self.invariant k c.in-Some.is).weighs, all))

pub VecVal::weight-returns-in-Some-but : goal.VecVal::weight-returns-in-Some-but
VecVal::weight-returns-in-Some-but t c =
    let k = c.in-Some.known in
    let cs = c.self.inside.items.items in
    let all = weights-without k.but cs c.in-Some-but.at c.index.result.now c.in-Some-but.is (omega arith) c.index.ensures in
    rw (← c.self.view_is) (omega (arith, (c.self.invariant k c.in-Some.is).weighs, all, c.saturating_add.ensures, c.weight.ensures))

pub VecVal::weight-returns-in-Some-2 : goal.VecVal::weight-returns-in-Some-2
VecVal::weight-returns-in-Some-2 t c =
    let k = c.in-Some.known in
    let all = ap weights (without-beyond k.but c.self.inside.items.items c.in-Some-but.at c.in-Some-but.is (omega arith)) in
    rw (← c.self.view_is) (omega (arith, (c.self.invariant k c.in-Some.is).weighs, all))

pub DictVal::weight-returns-in-None : goal.DictVal::weight-returns-in-None
DictVal::weight-returns-in-None t c =
    let k = c.in-Some.known in
    let es = zip c.self.inside.keys (vals_of c.self.inside.vals.items) in
    let all = ap entry_weights (without-none k.but es c.in-None.is) in
    rw (← c.self.view_is) (omega (arith, (c.self.invariant.2 k c.in-Some.is).weighs, all))

pub DictVal::weight-returns-in-Some-but : goal.DictVal::weight-returns-in-Some-but
DictVal::weight-returns-in-Some-but t c =
    let k = c.in-Some.known in
    let ks = c.self.inside.keys in
    let cs = c.self.inside.vals.items in
    let at = c.in-Some-but.at in
    let key = c.index-keys-at.result in
    let value = c.index.result.now in
    let keyed : key ≡ slice_index_or ks at key = subst (λ l. key ≡ slice_index_or l at key) c.as_slice-keys.ensures.keys c.index-keys-at.is in
    let here = entry-at ks cs at key value c.self.invariant.0 (omega arith) keyed c.index.ensures in
    let all = entry_weights-without k.but (zip ks (vals_of cs)) at (key, val_of value) c.in-Some-but.is here in
    rw (← c.self.view_is) (omega (arith, (c.self.invariant.2 k c.in-Some.is).weighs, all, c.weight.ensures, c.saturating_add-others.ensures, c.weight-in-Some-but.ensures, c.saturating_add.ensures))

pub DictVal::weight-returns-in-Some-2 : goal.DictVal::weight-returns-in-Some-2
DictVal::weight-returns-in-Some-2 t c =
    let k = c.in-Some.known in
    let ks = c.self.inside.keys in
    let cs = c.self.inside.vals.items in
    let all = ap entry_weights (without-past k.but (zip ks (vals_of cs)) c.in-Some-but.at c.in-Some-but.is (omega (arith, length-entries ks cs c.self.invariant.0))) in
    rw (← c.self.view_is) (omega (arith, (c.self.invariant.2 k c.in-Some.is).weighs, all))
