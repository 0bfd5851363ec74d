use Rattle.std.proofs.Common.{◌≡◌, ◌-◌, length}
use Rattle.type_lattice.specs.Classes.{chain, chain_within}
use Rattle.hhbc_repo.specs.LinkFaults.{along, names}
use Rattle.hhbc_repo.proofs.known.declares.Given as goal

abbrev pub invariant-loop : goal.invariant-loop
invariant-loop l = names (along l.tables (chain l.tree l.class)) l.name ≡ names (along l.tables (chain_within (length l.tree - l.counter) l.tree l.at)) l.name
