use Rattle.std.proofs.Common.{true, false, ◌≡◌, ◌+◌, sym, ◌∙◌, arith}
use Rattle.type_lattice.specs.Member.{key_in}
use Rattle.type_truth.proofs.Places.{all_lost, all_kept}
use Rattle.type_truth.proofs.member.keys_in.Goals as goal
use Rattle.type_truth.proofs.member.keys_in.Goals.{in-Some+else-not-key_in, in_default}

pub returns-then-not-key_in : goal.returns-then-not-key_in
returns-then-not-key_in c =
    all_lost (key_in c.args.leaf.now) c.args.elements.now c.loop-at.at c.in-Some.key.now c.loop-at.invariant c.in-Some.ensures.value
    (sym c.if-not-key_in.true ∙ c.key_in.ensures)

pub loop-at-preserved : goal.loop-at-preserved
loop-at-preserved c =
    elim c.match-at.branch [
      | in-Some+else-not-key_in w ↦ all_kept (key_in c.args.leaf.now) c.args.elements.now c.loop-at.at (c.loop-at.at + 1) w.in-Some.key.now c.loop-at.invariant w.in-Some.ensures.value (sym w.if-not-key_in.false ∙ w.key_in.ensures) (omega arith)
      | in_default w ↦
          let some : false ≡ true = w.in_default.ensures.variant.1 (omega (arith, c.loop-at-test.true, c.len-at-end.ensures.count)) in
          absurd (cc)
    ]
