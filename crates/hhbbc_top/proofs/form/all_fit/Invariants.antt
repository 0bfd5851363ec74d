use Rattle.std.proofs.Common.{◌↔◌, drop}
use Rattle.hhbc_semantics.specs.Form.{FitAsserts}
use Rattle.hhbbc_top.proofs.form.all_fit.Given as goal

abbrev pub invariant-loop-assert : goal.invariant-loop-assert
invariant-loop-assert l = FitAsserts l.locals (drop l.assert-index l.asserts) ↔ FitAsserts l.locals l.asserts
