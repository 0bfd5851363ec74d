use Rattle.std.proofs.Common.{arith, sym}
use Rattle.type_lattice.proofs.Nearest.{chain_one_shorter, chain_some}
use Rattle.type_lattice.proofs.class_tree.nearest_in.Goals as goal

pub overflow_sub-depth : goal.overflow_sub-depth
overflow_sub-depth c =
    let shorter = chain_one_shorter c.args.parents.now c.requires c.walk.at c.in-Some-parent_in.parent (sym c.in-Some-parent_in.ensures) in
    let some = chain_some c.args.parents.now c.requires c.in-Some-parent_in.parent in
    omega arith

pub walk-smaller : goal.walk-smaller
walk-smaller c =
    let shorter = chain_one_shorter c.args.parents.now c.requires c.walk.at c.in-Some-parent_in.parent (sym c.in-Some-parent_in.ensures) in
    let some = chain_some c.args.parents.now c.requires c.in-Some-parent_in.parent in
    omega arith
