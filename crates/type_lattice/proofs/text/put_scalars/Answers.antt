use Rattle.std.proofs.lemmas.Result.{IfOk-weaker}
use Rattle.type_lattice.proofs.AtomLaws.{adds_both}
use Rattle.type_lattice.proofs.text.put_scalars.Goals as goal

pub returns : goal.returns
returns c = IfOk-weaker c.put_obj.result _ _ (λ still h. adds_both _ _ _ _ _ _ _ _ c.in_ok-first.ensures (adds_both _ _ _ _ _ _ _ _ c.in_ok-first-2.ensures (adds_both _ _ _ _ _ _ _ _ c.in_ok-first-3.ensures (adds_both _ _ _ _ _ _ _ _ c.in_ok-first-4.ensures h)))) c.put_obj.ensures
