use Rattle.std.proofs.KnownBytes.{Consumes-trans}
use Rattle.hh_io.proofs.reading.read_all.Goals as goal

pub returns-then-count-limit-clause-lost : goal.returns-then-count-limit-clause-lost
returns-then-count-limit-clause-lost g c =
    (_, Consumes-trans _ _ _ _ _ c.loop-count.invariant.taken c.in-Ok.ensures.bytes.0)

pub returns-in_err-append-clause-lost : goal.returns-in_err-append-clause-lost
returns-in_err-append-clause-lost g c =
    (_, Consumes-trans _ _ _ _ _ c.loop-count.invariant.taken c.in-Ok.ensures.bytes.0)
