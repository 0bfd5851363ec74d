use Rattle.std.proofs.Common.{◌≡◌, ◌-◌}
use Rattle.type_lattice.specs.Classes.{chain_within, has}
use Rattle.hhbc_repo.proofs.class_chains.is_met.Given as goal

abbrev pub invariant-loop : goal.invariant-loop
invariant-loop l = has l.other (chain_within l.steps l.parents l.class) ≡ has l.other (chain_within (l.steps - l.counter) l.parents l.at)
