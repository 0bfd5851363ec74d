use Rattle.std.proofs.Common.{◌∙◌, sym, ap, ◌+◌}
use Rattle.hhbc_repo.proofs.NumbersPut.{next_finds}
use Rattle.hhbc_repo.proofs.listed.places_of.Goals as goal

pub loop-name-preserved : goal.loop-name-preserved
loop-name-preserved c = (
  ap (λ k. k + 1) c.loop-name.invariant.0,
  next_finds c.loop-name.numbers c.in_ok-numbers.numbers c.args.names.now c.loop-name.number c.loop-name.name-index c.name-item.result c.bytes.result.now c.loop-name.invariant.0
      c.loop-name-test.true (sym c.name-item.is ∙ sym c.bytes.ensures) c.loop-name.invariant.1 c.in_ok-numbers.ensures,
)
