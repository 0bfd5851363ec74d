use Rattle.std.proofs.Common.{sym, ap, ◌∙◌}
use Rattle.hhbc_repo.specs.declared.parts.BodyParts.{BodyParts}
use Rattle.hhbc_repo.proofs.FoundByName.{next_body}
use Rattle.hhbc_repo.proofs.declared.BodyTable.new.Goals as goal

pub loop-place-preserved : goal.loop-place-preserved
loop-place-preserved c =
    next_body (record { known = c.loop-place.known; firsts = c.loop-place.firsts }) (record { known = c.put_place.new.known; firsts = c.put_place.new.firsts }) c.args.bodies.now
    c.loop-place.place c.index-bodies-place.result c.bytes.result.now c.loop-place-test.true (sym c.index-bodies-place.is) (ap (λ (b : BodyParts). b.name) c.index-bodies-place.is ∙ sym c.bytes.ensures) c.loop-place.invariant c.in_ok-put_place.ensures
