use Rattle.hhbbc_top.proofs.Fitting.{plain-named, plain-unnamed}
use Rattle.hhbbc_top.proofs.form.is_plain.Goals as goal

pub returns-then-is_named : goal.returns-then-is_named
returns-then-is_named c = plain-named _ _ c.is_named.ensures c.if-is_named.true

pub returns-else-is_named : goal.returns-else-is_named
returns-else-is_named c = plain-unnamed _ _ _ c.is_named.ensures c.if-is_named.false c.is_one_int.ensures
