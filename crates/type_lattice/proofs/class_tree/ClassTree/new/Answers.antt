use Rattle.std.proofs.Common.{◌≡◌, true, false, length, inl, inr}
use Rattle.std.specs.List.{list_all}
use Rattle.type_lattice.specs.Walks.{inside}
use Rattle.type_lattice.proofs.Made.{has_stray, has_cycle, is_forest}
use Rattle.type_lattice.proofs.class_tree.ClassTree.new.Goals as goal

pub returns-then-not-are_inside-clause-none : goal.returns-then-not-are_inside-clause-none
returns-then-not-are_inside-clause-none c = λ e. let t = c.args.parents in
    let h : list_all (inside (length t)) t ≡ false = cc in inl (has_stray t h)

pub returns-then-not-are_ended-clause-none : goal.returns-then-not-are_ended-clause-none
returns-then-not-are_ended-clause-none c = λ e. let t = c.args.parents in
    let h : list_all (inside (length t)) t ≡ true = cc in
    let w = rw c.as_slice-2.ensures at c.are_ended.ensures.no (cc) in inr (has_cycle t h w)

pub invariant_of-result : goal.invariant_of-result
invariant_of-result c = let t = c.args.parents in
    let h : list_all (inside (length t)) t ≡ true = cc in
    let w = rw c.as_slice-2.ensures at c.are_ended.ensures.yes (cc) in is_forest t h w

pub returns-clause-forest : goal.returns-clause-forest
returns-clause-forest c = invariant_of-result c
