use Rattle.std.proofs.Common.{◌+◌, None, ap, subst, ◌∙◌}
use Rattle.std.specs.List.{remove}
use Rattle.hack_values.specs.declared.known.Known.{Known}
use Rattle.hack_values.specs.Keys.{capped, without}
use Rattle.hack_values.specs.Known.{IsDepth, IsDictKnown}
use Rattle.hack_values.specs.Val.{entry_weights, entry_depths}
use Rattle.hack_values.proofs.Knowns.{some_known}
use Rattle.hack_values.proofs.cell.DictVal.known_without.Goals as goal

pub returns : goal.returns
returns c =
    let es = c.args.self.now in
    let k = c.in_ok-known.known in
    let others = c.known_but.ensures k c.in_ok-known.was in
    let kept : Known = record { weight = k.weight; depth = k.depth; but = None } in
    some_known kept (IsDictKnown (remove es c.args.at)) (record {
      weighs = others.1.weighs ∙ ap (λ at. capped (1 + entry_weights (without at es))) others.0;
      deep = subst (λ at. IsDepth (1 + entry_depths (without at es)) k.depth) others.0 others.1.deep;
    })
