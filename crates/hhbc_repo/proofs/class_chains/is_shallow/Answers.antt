use Rattle.std.proofs.Common.{rules, ◌≡◌, ◌<◌, ◌≤◌, length, sym, ◌∙◌, true, false}
use Rattle.type_lattice.specs.Classes.{chain_within, has}
use Rattle.hhbc_repo.proofs.ChainLaws.{few_classes, few_at_root, few_at_met, counted_up, too_many}
use Rattle.hhbc_repo.proofs.class_chains.is_shallow.Goals as goal

pub returns-then-parents-lt-MOST_ON_CHAIN : goal.returns-then-parents-lt-MOST_ON_CHAIN
returns-then-parents-lt-MOST_ON_CHAIN c =
    let few : length c.args.parents.now < 64 = search rules in sym (few_classes c.args.parents.now 64 c.args.class few)

pub returns-in-None : goal.returns-in-None
returns-in-None c =
    let l = c.loop-steps in
    let early : l.steps < 64 = search rules in
    sym (few_at_root c.args.parents.now l.steps 64 c.args.class l.at early l.invariant.0 l.invariant.1 (sym c.parent_in.ensures ∙ c.in-None.is))

pub returns-in-Some : goal.returns-in-Some
returns-in-Some c =
    let l = c.loop-steps in
    let early : l.steps < 64 = search rules in
    let met : has c.in-Some.parent (chain_within l.steps c.args.parents.now c.args.class) ≡ true = search rules in
    sym (few_at_met c.args.parents.now l.steps 64 c.args.class l.at c.in-Some.parent early l.invariant.0 l.invariant.1 (sym c.parent_in.ensures ∙ c.in-Some.is) met)

pub loop-steps-preserved : goal.loop-steps-preserved
loop-steps-preserved c =
    let l = c.loop-steps in
    let new : has c.in-Some.parent (chain_within l.steps c.args.parents.now c.args.class) ≡ false = search rules in
    counted_up c.args.parents.now l.steps c.args.class l.at c.in-Some.parent l.invariant.0 l.invariant.1 (sym c.parent_in.ensures ∙ c.in-Some.is) new

pub returns : goal.returns
returns c =
    let l = c.loop-steps in
    let all : 64 ≤ length c.args.parents.now = search rules in
    let last : l.steps ≡ 64 = search rules in
    sym (too_many c.args.parents.now 64 c.args.class all (rw last at l.invariant.1))
