use Rattle.std.proofs.Common.{◌≡◌, ◌++◌, take}
use Rattle.std.specs.List.{flat_map}
use Rattle.hhbc_repo.specs.Codes.{labels_in}
use Rattle.hhbc_repo.proofs.code_facts.push_all_labels.Given as goal

abbrev pub invariant-loop-operand : goal.invariant-loop-operand
invariant-loop-operand l = l.labels ≡ l.fn.labels ++ flat_map labels_in (take l.operand-index l.operands)
