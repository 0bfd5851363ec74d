use Rattle.std.proofs.Common.{◌≡◌, ◌+◌, ◌-◌, max, Some, refl, arith, ap, subst}
use Rattle.std.specs.List.{remove}
use Rattle.hack_values.specs.declared.known.Known.{Known}
use Rattle.hack_values.specs.Known.{IsVecKnown}
use Rattle.hack_values.specs.Val.{depth, weights, depths}
use Rattle.hack_values.specs.View.{val_of, vals_of}
use Rattle.hack_values.proofs.Rows.{weights-others, depths-others}
use Rattle.hack_values.proofs.Knowns.{depth_of}
use Rattle.hack_values.proofs.cell.VecVal.known_but.Goals as goal

pub overflow_sub-result : goal.overflow_sub-result
overflow_sub-result c =
    let heavy = weights-others c.self.inside.items.items c.args.at c.index.result.now (omega arith) c.index.ensures in
    let seen = ap weights c.self.view_is in
    omega (arith, heavy, seen, c.weight-weight.ensures, c.weight.ensures)

pub returns : goal.returns
returns c =
    let cs = c.self.inside.items.items in
    let heavy = weights-others cs c.args.at c.index.result.now (omega arith) c.index.ensures in
    let high = depths-others cs c.args.at c.index-2.result.now (omega arith) c.index-2.ensures in
    let all_weights = ap weights c.self.view_is in
    let all_depths = ap depths c.self.view_is in
    let others = depths (remove (vals_of cs) c.args.at) in
    let inner = depth (val_of c.index-2.result.now) in
    let kept : Known = record { weight = c.weight-weight.result - c.weight.result; depth = c.without.result; but = Some c.args.at } in
    let holds : IsVecKnown (vals_of cs) kept = record {
      weighs = omega (arith, heavy, all_weights, c.weight-weight.ensures, c.weight.ensures);
      deep = c.without.ensures (1 + others) inner (omega arith) (depth_of (1 + depths c.args.self.now) (max (1 + others) (1 + inner)) c.depth_at_hand.result (omega (arith, high, all_depths)) c.depth_at_hand.ensures) c.depth_at_hand-2.ensures;
    } in
    rw (← c.self.view_is) (λ x e. let same : kept ≡ x = cc in subst (λ (k : Known). (k.but ≡ Some c.args.at) × IsVecKnown (vals_of cs) k) same (refl, holds))
