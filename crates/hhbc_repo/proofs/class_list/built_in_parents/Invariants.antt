use Rattle.std.proofs.Common.{◌≡◌, ◌∷◌, Some, None, replicate}
use Rattle.hhbc_repo.proofs.class_list.built_in_parents.Given as goal

abbrev pub invariant-loop : goal.invariant-loop
invariant-loop l = l.parents ≡ None ∷ replicate l.counter (Some 0)
