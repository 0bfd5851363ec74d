use Rattle.std.proofs.Common.{◌≡◌, take}
use Rattle.hhbbc_top.proofs.form.copied.Given as goal

abbrev pub invariant-loop-assert : goal.invariant-loop-assert
invariant-loop-assert l = l.copies ≡ take l.assert-index l.asserts
