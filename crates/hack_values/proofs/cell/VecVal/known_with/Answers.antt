use Rattle.std.proofs.Common.{◌+◌, ◌++◌, [], ◌∷◌, max, None, arith}
use Rattle.hack_values.specs.declared.known.Known.{Known}
use Rattle.hack_values.specs.Known.{IsVecKnown}
use Rattle.hack_values.specs.Val.{depth, depths}
use Rattle.hack_values.specs.View.{val_of}
use Rattle.hack_values.proofs.Rows.{weights-push, depths-push}
use Rattle.hack_values.proofs.Knowns.{depth_of, some_known}
use Rattle.hack_values.proofs.cell.VecVal.known_with.Goals as goal

pub returns : goal.returns
returns c =
    let vs = c.args.self.now in
    let v = val_of c.args.value.now in
    let kept : Known = record { weight = c.saturating_add.result; depth = c.with.result; but = None } in
    some_known kept (IsVecKnown (vs ++ v ∷ [])) (record {
      weighs = omega (arith, weights-push vs v, c.saturating_add.ensures, c.weight.ensures, c.weight-2.ensures);
      deep = depth_of (max (1 + depths vs) (1 + depth v)) (1 + depths (vs ++ v ∷ [])) c.with.result (omega (arith, depths-push vs v)) (c.with.ensures (1 + depths vs) (depth v) c.depth_at_hand.ensures c.depth_at_hand-2.ensures);
    })
