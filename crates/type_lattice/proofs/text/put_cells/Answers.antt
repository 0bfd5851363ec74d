use Rattle.std.proofs.Common.{sym, ◌∙◌}
use Rattle.std.proofs.lemmas.Result.{IfOk-weaker}
use Rattle.type_lattice.proofs.AtomLaws.{adds_both, adds_else}
use Rattle.type_lattice.proofs.text.put_cells.Goals as goal

pub returns : goal.returns
returns c =
    IfOk-weaker c.put_containers.result _ _
    (λ still h. adds_else _ _ _ _ _ _ _ (sym c.has_all_cells.ensures ∙ c.if-has_all_cells.false) (adds_both _ _ _ _ _ _ _ _ c.in_ok-first.ensures h)) c.put_containers.ensures
