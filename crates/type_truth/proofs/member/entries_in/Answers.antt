use Rattle.std.proofs.Common.{true, false, ◌≡◌, ◌+◌, sym, ◌∙◌, arith}
use Rattle.type_lattice.specs.Member.{key_in, in_leaf}
use Rattle.type_truth.proofs.Places.{both_lost, both_kept}
use Rattle.type_truth.proofs.member.entries_in.Goals as goal
use Rattle.type_truth.proofs.member.entries_in.Goals.{in-Some+else-not-entry_in, in_default}

pub returns-then-not-entry_in : goal.returns-then-not-entry_in
returns-then-not-entry_in c =
    both_lost (key_in c.args.leaves.now.0) (in_leaf c.args.tree.now c.args.heap.now c.args.leaves.now.1) c.args.entries.now c.loop-at.at c.in-Some.key.now c.in-Some.value.now
    c.loop-at.invariant c.in-Some.ensures.value (sym c.if-not-entry_in.true ∙ c.entry_in.ensures)

pub loop-at-preserved : goal.loop-at-preserved
loop-at-preserved c =
    elim c.match-at.branch [
      | in-Some+else-not-entry_in w ↦ both_kept (key_in c.args.leaves.now.0) (in_leaf c.args.tree.now c.args.heap.now c.args.leaves.now.1) c.args.entries.now c.loop-at.at (c.loop-at.at + 1) w.in-Some.key.now w.in-Some.value.now c.loop-at.invariant w.in-Some.ensures.value (sym w.if-not-entry_in.false ∙ w.entry_in.ensures) (omega arith)
      | in_default w ↦
          let some : false ≡ true = w.in_default.ensures.variant.1 (omega (arith, c.loop-at-test.true, c.len-at-end.ensures.count)) in
          absurd (cc)
    ]
