use Rattle.std.proofs.Common.{◌∙◌, ap, sym, Some}
use Rattle.std.proofs.lemmas.Option.{slice_get-get_or}
use Rattle.hhbbc_top.specs.declared.form.Line.{Line}
use Rattle.hhbbc_top.proofs.Machines.{test-stuck}
use Rattle.hhbbc_top.proofs.machine.take_turn.Goals as goal

pub returns-in-None : goal.returns-in-None
returns-in-None c =
    let h = rw c.as_slice.ensures at c.in-Some.ensures.lookup in
    let at = slice_get-get_or c.args.main.now.codes c.args.machine.now.position c.in-Some.line.now h.3.0 ∙ ap (λ (l : Line). Some l) (sym h.1) in
    rw c.if-asserted.true (test-stuck c.args.main.now c.args.machine.now c.args.machine.now c.in-Some.line.now at (rw c.as_slice-then-asserted.ensures at (sym c.test.ensures ∙ c.in-None.is)))
