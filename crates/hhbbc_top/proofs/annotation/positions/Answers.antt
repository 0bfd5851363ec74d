use Rattle.std.proofs.Common.{◌≡◌, suc, ◌+◌, ◌++◌, ◌∷◌, List, drop, add-one, drop-cons, ap, sym, ◌∙◌}
use Rattle.hhbbc_top.specs.declared.form.Line.{Line}
use Rattle.hhbbc_top.specs.Forms.{state_of, if_reached}
use Rattle.hhbbc_top.proofs.Along.{stated, end_of, stated-turn, end_of-turn}
use Rattle.hhbbc_top.proofs.annotation.positions.Goals as goal

pub loop-line-preserved : goal.loop-line-preserved
loop-line-preserved c =
    let codes = c.args.codes.now in
    let at = c.loop-line.line-index in
    let now = if_reached c.loop-line.reached (state_of c.loop-line.ts) in
    let line = c.line-item.result in
    let e : drop at codes ≡ line ∷ drop (at + 1) codes =
    rw add-one (drop-cons codes at line c.loop-line-test.true ∙ ap (λ (l : Line). l ∷ drop (suc at) codes) (sym c.line-item.is)) in
    record {
      claims = stated-turn _ _ _ line _ now _ _ (ap (λ (l : List Line). c.loop-line.done ++ stated l now) (sym e) ∙ c.loop-line.invariant.claims)
          c.in_ok-position.ensures c.in_ok-reached.ensures c.in_ok-push.ensures.ok;
      returns = end_of-turn _ c.loop-line.last _ line (drop (at + 1) codes) now _ (ap (λ (l : List Line). end_of c.loop-line.last l now) (sym e) ∙ c.loop-line.invariant.returns)
          c.returned-last.ensures c.in_ok-reached.ensures;
    }
