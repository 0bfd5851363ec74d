use Rattle.std.proofs.Common.{◌≡◌, drop}
use Rattle.type_lattice.specs.Member.{key_in, in_leaf}
use Rattle.type_truth.proofs.Places.{both}
use Rattle.type_truth.proofs.member.entries_in.Given as goal

-- those that are left decide
abbrev pub invariant-loop-at : goal.invariant-loop-at
invariant-loop-at l =
    let passes = both (key_in l.fn.leaves.0) (in_leaf l.fn.tree l.fn.heap l.fn.leaves.1) in
    passes (drop l.at l.fn.entries) ≡ passes l.fn.entries
