use Rattle.std.proofs.Common.{◌≡◌, true, ◌++◌, drop}
use Rattle.hhbc_repo.specs.Names.{distinct_from}
use Rattle.hhbc_repo.proofs.name_table.table_of_texts.Given as goal

abbrev pub invariant-loop-text : goal.invariant-loop-text
invariant-loop-text l = (distinct_from l.table (drop l.text-index l.texts) ≡ true) × (l.table ++ (drop l.text-index l.texts) ≡ l.texts)
