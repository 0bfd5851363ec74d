use Rattle.std.proofs.Common.{◌≡◌, ◌++◌, take}
use Rattle.hhbc_repo.proofs.scope.local_names.Given as goal

abbrev pub invariant-loop-param : goal.invariant-loop-param
invariant-loop-param l = l.names ≡ take l.param-index l.fn.body.params

abbrev pub invariant-loop-local : goal.invariant-loop-local
invariant-loop-local l = l.names ≡ l.fn.body.params ++ take l.local-index l.fn.body.locals
