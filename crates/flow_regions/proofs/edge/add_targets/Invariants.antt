use Rattle.std.proofs.Common.{◌≡◌, ◌++◌, map, drop}
use Rattle.hhbc_repo.specs.Edges.{To}
use Rattle.flow_regions.specs.EdgeLists.{told}
use Rattle.flow_regions.proofs.edge.add_targets.Given as goal

abbrev pub invariant-loop-target : goal.invariant-loop-target
invariant-loop-target l =
    told l.edges ++ map (λ q. To q) (drop l.target-index l.targets) ≡ told l.initial.edges ++ map (λ q. To q) l.targets
