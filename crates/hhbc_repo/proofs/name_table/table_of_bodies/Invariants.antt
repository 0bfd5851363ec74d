use Rattle.std.proofs.Common.{◌≡◌, true, ◌++◌, drop, map}
use Rattle.hhbc_repo.specs.Names.{distinct_from}
use Rattle.hhbc_repo.specs.declared.body.Body.{Body}
use Rattle.hhbc_repo.proofs.name_table.table_of_bodies.Given as goal

abbrev pub invariant-loop-body : goal.invariant-loop-body
invariant-loop-body l = (distinct_from l.table (map (λ (b : Body). b.name) (drop l.body-index l.bodies)) ≡ true) × (l.table ++ (map (λ (b : Body). b.name) (drop l.body-index l.bodies)) ≡ map (λ (b : Body). b.name) l.bodies)
