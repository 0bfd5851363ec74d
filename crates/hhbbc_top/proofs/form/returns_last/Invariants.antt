use Rattle.std.proofs.Common.{◌≡◌, false, drop}
use Rattle.hhbbc_top.specs.Mains.{ends_from}
use Rattle.hhbbc_top.proofs.form.returns_last.Given as goal

abbrev pub invariant-loop-line : goal.invariant-loop-line
invariant-loop-line l = ends_from l.returned (drop l.line-index l.lines) ≡ ends_from false l.lines
