use Rattle.std.proofs.Common.{◌≡◌, take}
use Rattle.hhbc_semantics.specs.Form.{AllDiffer}
use Rattle.hhbbc_top.proofs.form.locals_of.Given as goal

abbrev pub invariant-loop-name : goal.invariant-loop-name
invariant-loop-name l = record {
  same : l.locals ≡ take l.name-index l.names;
  differ : AllDiffer l.locals;
}
