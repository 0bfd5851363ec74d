use Rattle.std.proofs.Common.{◌≡◌, ◌++◌, map, drop}
use Rattle.hhbc_repo.specs.declared.parts.ClassParts.{ClassParts}
use Rattle.hhbc_repo.specs.declared.repo.Const.{Const}
use Rattle.hhbc_repo.specs.Once.{once, constant_tables}
use Rattle.hhbc_repo.proofs.known.all_constants.Given as goal

abbrev pub invariant-loop-class : goal.invariant-loop-class
invariant-loop-class l = l.all ++ map (λ (c : ClassParts). once (map (λ (k : Const). k.name) c.consts)) (drop l.class-index l.classes) ≡ constant_tables l.classes
