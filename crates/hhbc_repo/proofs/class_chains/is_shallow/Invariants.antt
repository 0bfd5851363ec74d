use Rattle.std.proofs.Common.{◌≡◌, suc, Some}
use Rattle.type_lattice.specs.Classes.{chain_within, climb}
use Rattle.hhbc_repo.specs.LinkFaults.{different}
use Rattle.hhbc_repo.proofs.class_chains.is_shallow.Given as goal

abbrev pub invariant-loop-steps : goal.invariant-loop-steps
invariant-loop-steps l = (climb l.steps l.parents l.class ≡ Some l.at) × (different (chain_within l.steps l.parents l.class) ≡ suc l.steps)
