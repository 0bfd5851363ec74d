use Rattle.std.proofs.Common.{◌≡◌, drop}
use Rattle.std.specs.List.{list_all}
use Rattle.type_lattice.specs.Member.{key_in}
use Rattle.type_truth.proofs.member.keys_in.Given as goal

-- those that are left decide
abbrev pub invariant-loop-at : goal.invariant-loop-at
invariant-loop-at l = list_all (key_in l.fn.leaf) (drop l.at l.fn.elements) ≡ list_all (key_in l.fn.leaf) l.fn.elements
