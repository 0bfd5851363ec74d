use Rattle.std.proofs.Common.{◌≡◌, [], drop}
use Rattle.hhbc_repo.specs.LinkFaults.{repeated_functions}
use Rattle.hhbc_repo.proofs.distinct_names.check_functions.Given as goal

abbrev pub invariant-loop-function : goal.invariant-loop-function
invariant-loop-function l = repeated_functions l.seen (drop l.function-index l.functions) ≡ repeated_functions [] l.functions
