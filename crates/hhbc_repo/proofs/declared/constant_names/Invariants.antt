use Rattle.std.proofs.Common.{◌≡◌, map, drop}
use Rattle.hhbc_repo.specs.declared.repo.Const.{Const}
use Rattle.hhbc_repo.specs.Once.{added_all, once}
use Rattle.hhbc_repo.proofs.declared.constant_names.Given as goal

abbrev pub invariant-loop-constant : goal.invariant-loop-constant
invariant-loop-constant l = added_all l.table (map (λ (k : Const). k.name) (drop l.constant-index l.constants)) ≡ once (map (λ (k : Const). k.name) l.constants)
