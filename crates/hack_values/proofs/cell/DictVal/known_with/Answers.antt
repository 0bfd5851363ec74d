use Rattle.std.proofs.Common.{◌+◌, ◌++◌, [], ◌∷◌, max, None, arith}
use Rattle.hack_values.specs.declared.known.Known.{Known}
use Rattle.hack_values.specs.Known.{IsDictKnown}
use Rattle.hack_values.specs.Val.{depth, entry_depths}
use Rattle.hack_values.specs.View.{val_of}
use Rattle.hack_values.proofs.Rows.{entry_weights-push, entry_depths-push}
use Rattle.hack_values.proofs.Knowns.{depth_of, some_known}
use Rattle.hack_values.proofs.cell.DictVal.known_with.Goals as goal

pub returns : goal.returns
returns c =
    let es = c.args.self.now in
    let k = c.args.key.now in
    let v = val_of c.args.value.now in
    let kept : Known = record { weight = c.saturating_add.result; depth = c.with.result; but = None } in
    some_known kept (IsDictKnown (es ++ (k, v) ∷ [])) (record {
      weighs = omega (arith, entry_weights-push es k v, c.weight.ensures, c.weight-2.ensures, c.saturating_add-with_key.ensures, c.weight-3.ensures, c.saturating_add.ensures);
      deep = depth_of (max (1 + entry_depths es) (1 + depth v)) (1 + entry_depths (es ++ (k, v) ∷ [])) c.with.result (omega (arith, entry_depths-push es k v)) (c.with.ensures (1 + entry_depths es) (depth v) c.depth_at_hand.ensures c.depth_at_hand-2.ensures);
    })
