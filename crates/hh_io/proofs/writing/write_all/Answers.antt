use Rattle.std.proofs.Common.{◌∙◌}
use Rattle.hh_io.proofs.Taking.{Takes-trans, TellsOn-trans, take-seam, rest-within}
use Rattle.std.proofs.lemmas.List.{length-take-le}
use Rattle.hh_io.proofs.writing.write_all.Goals as goal

pub loop-at-preserved : goal.loop-at-preserved
loop-at-preserved g c =
    let bytes = c.args.bytes.now in
    let count = c.in_ok-at.field-0 in
    let taken = Takes-trans _ _ _ _ _ c.loop-at.invariant.taken c.in_ok-at.ensures.bytes.2 in
    record {
      within = rest-within c.loop-at.at count bytes c.loop-at.invariant.within c.in_ok-at.ensures.bytes.0;
      taken = rw (take-seam c.loop-at.at count bytes) at taken;
      told =
          TellsOn-trans _ _ _ _ _ _ _ _ _ c.loop-at.invariant.same_room (length-take-le c.loop-at.at bytes c.loop-at.invariant.within) c.loop-at.invariant.taken c.in_ok-at.ensures.bytes.2
          c.loop-at.invariant.told c.in_ok-at.ensures.told;
      same_room = c.in_ok-at.ensures.same_room ∙ c.loop-at.invariant.same_room;
      faults = c.in_ok-at.ensures.cause.kept ∙ c.loop-at.invariant.faults;
    }
