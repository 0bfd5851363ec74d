use Rattle.std.proofs.Common.{◌≡◌, ◌-◌, length}
use Rattle.type_lattice.specs.Classes.{chain, chain_within}
use Rattle.hhbc_repo.specs.LinkFaults.{along, with_name}
use Rattle.hhbc_repo.proofs.known.find_method.Given as goal

abbrev pub invariant-loop : goal.invariant-loop
invariant-loop l = with_name (along l.tables (chain l.tree l.class)) l.name ≡ with_name (along l.tables (chain_within (length l.tree - l.counter) l.tree l.at)) l.name
