use Rattle.std.proofs.Common.{rules, ◌≡◌, nat_le, true, false}
use Rattle.type_lattice.specs.Classes.{parent_of, chain, has}
use Rattle.hhbc_repo.specs.LinkFaults.{above, different}
use Rattle.hhbc_repo.proofs.ChainLaws.{met_within}
use Rattle.hhbc_repo.proofs.class_chains.chain_fault.Goals as goal

pub returns-then-is_met_again-clause-cycle : goal.returns-then-is_met_again-clause-cycle
returns-then-is_met_again-clause-cycle c =
    let few : nat_le (different (chain c.args.parents.now c.args.class)) 64 ≡ true = search rules in
    let same = met_within c.args.parents.now 64 c.args.class c.args.class few in λ is. search (rules, same)

pub returns-else-is_met_again-clause-none : goal.returns-else-is_met_again-clause-none
returns-else-is_met_again-clause-none c =
    let few : nat_le (different (chain c.args.parents.now c.args.class)) 64 ≡ true = search rules in
    let same = met_within c.args.parents.now 64 c.args.class c.args.class few in
    let new : has c.args.class (above c.args.parents.now (parent_of c.args.parents.now c.args.class)) ≡ false = search (rules, same) in λ is. (new, few)
