use Rattle.std.proofs.Common.{◌+◌, max, arith, ap}
use Rattle.std.specs.List.{zip}
use Rattle.hack_values.specs.Keys.{without}
use Rattle.hack_values.specs.Val.{depth, depths, entry_depths}
use Rattle.hack_values.specs.View.{val_of, vals_of}
use Rattle.hack_values.proofs.Rows.{length-entries}
use Rattle.hack_values.proofs.Knowns.{depth_of, without-none, without-past, without-beyond, depths-without, entry_depths-at}
use Rattle.hack_values.proofs.cell.+depth_at_hand.Goals as goal

pub VecVal::depth_at_hand-returns-in-None : goal.VecVal::depth_at_hand-returns-in-None
VecVal::depth_at_hand-returns-in-None t c =
    let k = c.in-Some.known in
    let vs = vals_of c.self.inside.items.items in
    let all = ap depths (without-none k.but vs c.in-None.is) in
    rw (← c.self.view_is) (depth_of (1 + depths (without k.but vs)) (1 + depths vs) k.depth (omega (arith, all)) (c.self.invariant k c.in-Some.is).deep)

pub VecVal::depth_at_hand-returns-in-Some-but : goal.VecVal::depth_at_hand-returns-in-Some-but
VecVal::depth_at_hand-returns-in-Some-but t c =
    let k = c.in-Some.known in
    let cs = c.self.inside.items.items in
    let vs = vals_of cs in
    let value = c.index.result.now in
    let all = depths-without k.but cs c.in-Some-but.at value c.in-Some-but.is (omega arith) c.index.ensures in
    let others = 1 + depths (without k.but vs) in
    rw (← c.self.view_is)
    (depth_of (max others (1 + depth (val_of value))) (1 + depths vs) c.with.result (omega (arith, all)) (c.with.ensures others (depth (val_of value)) (c.self.invariant k c.in-Some.is).deep c.depth_at_hand.ensures))

pub VecVal::depth_at_hand-returns-in-Some-2 : goal.VecVal::depth_at_hand-returns-in-Some-2
VecVal::depth_at_hand-returns-in-Some-2 t c =
    let k = c.in-Some.known in
    let vs = vals_of c.self.inside.items.items in
    let all = ap depths (without-beyond k.but c.self.inside.items.items c.in-Some-but.at c.in-Some-but.is (omega arith)) in
    rw (← c.self.view_is) (depth_of (1 + depths (without k.but vs)) (1 + depths vs) k.depth (omega (arith, all)) (c.self.invariant k c.in-Some.is).deep)

pub DictVal::depth_at_hand-returns-in-None : goal.DictVal::depth_at_hand-returns-in-None
DictVal::depth_at_hand-returns-in-None t c =
    let k = c.in-Some.known in
    let es = zip c.self.inside.keys (vals_of c.self.inside.vals.items) in
    let all = ap entry_depths (without-none k.but es c.in-None.is) in
    rw (← c.self.view_is) (depth_of (1 + entry_depths (without k.but es)) (1 + entry_depths es) k.depth (omega (arith, all)) (c.self.invariant.2 k c.in-Some.is).deep)

pub DictVal::depth_at_hand-returns-in-Some-but : goal.DictVal::depth_at_hand-returns-in-Some-but
DictVal::depth_at_hand-returns-in-Some-but t c =
    let k = c.in-Some.known in
    let ks = c.self.inside.keys in
    let cs = c.self.inside.vals.items in
    let es = zip ks (vals_of cs) in
    let value = c.index.result.now in
    let all = entry_depths-at k.but ks cs c.in-Some-but.at value c.in-Some-but.is c.self.invariant.0 (omega arith) c.index.ensures in
    let others = 1 + entry_depths (without k.but es) in
    rw (← c.self.view_is)
    (depth_of (max others (1 + depth (val_of value))) (1 + entry_depths es) c.with.result (omega (arith, all)) (c.with.ensures others (depth (val_of value)) (c.self.invariant.2 k c.in-Some.is).deep c.depth_at_hand.ensures))

pub DictVal::depth_at_hand-returns-in-Some-2 : goal.DictVal::depth_at_hand-returns-in-Some-2
DictVal::depth_at_hand-returns-in-Some-2 t c =
    let k = c.in-Some.known in
    let ks = c.self.inside.keys in
    let cs = c.self.inside.vals.items in
    let es = zip ks (vals_of cs) in
    let all = ap entry_depths (without-past k.but es c.in-Some-but.at c.in-Some-but.is (omega (arith, length-entries ks cs c.self.invariant.0))) in
    rw (← c.self.view_is) (depth_of (1 + entry_depths (without k.but es)) (1 + entry_depths es) k.depth (omega (arith, all)) (c.self.invariant.2 k c.in-Some.is).deep)
