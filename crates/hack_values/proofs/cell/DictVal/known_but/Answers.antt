use Rattle.std.proofs.Common.{◌≡◌, ◌+◌, ◌-◌, max, Some, refl, arith, ap, subst, slice_index_or}
use Rattle.std.specs.List.{remove, zip}
use Rattle.hack_values.specs.declared.known.Known.{Known}
use Rattle.hack_values.specs.Known.{IsDictKnown}
use Rattle.hack_values.specs.Val.{depth, entry_weights, entry_depths}
use Rattle.hack_values.specs.View.{val_of, vals_of}
use Rattle.hack_values.proofs.Rows.{entry-at}
use Rattle.hack_values.proofs.Knowns.{depth_of, entry_weights-others, keys_weight-within, depths-at}
use Rattle.hack_values.proofs.cell.DictVal.known_but.Goals as goal

pub overflow_sub-result : goal.overflow_sub-result
overflow_sub-result c =
    let ks = c.self.inside.keys in
    let cs = c.self.inside.vals.items in
    let key = c.index-keys-at.result in
    let keyed : key ≡ slice_index_or ks c.args.at key = subst (λ l. key ≡ slice_index_or l c.args.at key) c.as_slice-keys.ensures.keys c.index-keys-at.is in
    let seen = ap entry_weights c.self.view_is in
    let heavy = keys_weight-within ks cs c.args.at key c.self.invariant.0 (omega arith) keyed in
    omega (arith, seen, heavy, c.weight-weight.ensures, c.weight.ensures)

pub overflow_sub-result-2 : goal.overflow_sub-result-2
overflow_sub-result-2 c =
    let ks = c.self.inside.keys in
    let cs = c.self.inside.vals.items in
    let key = c.index-keys-at.result in
    let value = c.index.result.now in
    let keyed : key ≡ slice_index_or ks c.args.at key = subst (λ l. key ≡ slice_index_or l c.args.at key) c.as_slice-keys.ensures.keys c.index-keys-at.is in
    let here = entry-at ks cs c.args.at key value c.self.invariant.0 (omega arith) keyed c.index.ensures in
    let heavy = entry_weights-others (zip ks (vals_of cs)) c.args.at (key, val_of value) here in
    let seen = ap entry_weights c.self.view_is in
    omega (arith, seen, heavy, c.weight-weight.ensures, c.weight.ensures, c.weight-2.ensures)

pub returns : goal.returns
returns c =
    let ks = c.self.inside.keys in
    let cs = c.self.inside.vals.items in
    let es = zip ks (vals_of cs) in
    let key = c.index-keys-at.result in
    let value = c.index.result.now in
    let keyed : key ≡ slice_index_or ks c.args.at key = subst (λ l. key ≡ slice_index_or l c.args.at key) c.as_slice-keys.ensures.keys c.index-keys-at.is in
    let here = entry-at ks cs c.args.at key value c.self.invariant.0 (omega arith) keyed c.index.ensures in
    let heavy = entry_weights-others es c.args.at (key, val_of value) here in
    let high = depths-at ks cs c.args.at c.index-2.result.now c.self.invariant.0 (omega arith) c.index-2.ensures in
    let all_weights = ap entry_weights c.self.view_is in
    let all_depths = ap entry_depths c.self.view_is in
    let others = entry_depths (remove es c.args.at) in
    let inner = depth (val_of c.index-2.result.now) in
    let kept : Known = record { weight = c.weight-weight.result - c.weight.result - c.weight-2.result; depth = c.without.result; but = Some c.args.at } in
    let holds : IsDictKnown es kept = record {
      weighs = omega (arith, heavy, all_weights, c.weight-weight.ensures, c.weight.ensures, c.weight-2.ensures);
      deep = c.without.ensures (1 + others) inner (omega arith) (depth_of (1 + entry_depths c.args.self.now) (max (1 + others) (1 + inner)) c.depth_at_hand.result (omega (arith, high, all_depths)) c.depth_at_hand.ensures) c.depth_at_hand-2.ensures;
    } in
    rw (← c.self.view_is) (λ x e. let same : kept ≡ x = cc in subst (λ (k : Known). (k.but ≡ Some c.args.at) × IsDictKnown es k) same (refl, holds))
