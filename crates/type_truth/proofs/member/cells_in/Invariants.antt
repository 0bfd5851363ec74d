use Rattle.std.proofs.Common.{◌≡◌, drop}
use Rattle.std.specs.List.{list_all}
use Rattle.type_lattice.specs.Member.{in_leaf}
use Rattle.type_truth.proofs.member.cells_in.Given as goal

-- those that are left decide
abbrev pub invariant-loop-cell : goal.invariant-loop-cell
invariant-loop-cell l =
    let passes = in_leaf l.fn.tree l.fn.heap l.fn.leaf in
    list_all passes (drop l.cell-index l.cells) ≡ list_all passes l.fn.cells
