use Rattle.std.proofs.Common.{◌≡◌, ◌+◌, ◌-◌, ◌≤◌, length}
use Rattle.std.specs.Io.KnownBytes.{Consumes}
use Rattle.hh_io.proofs.reading.read_all.Given as goal

abbrev pub invariant-loop-count : goal.invariant-loop-count
invariant-loop-count g l = record {
  short : length l.text ≤ l.limit;
  taken : Consumes (g.S.Source.left l.fn.source) (g.S.Source.left l.source) l.text;
  faults : g.S.Source.faults l.source ≡ g.S.Source.faults l.fn.source;
  sound : g.S.Source.certain l.fn.source ≤ g.S.Source.certain l.source + length l.text;
  later : g.S.Source.reads l.fn.source ≤ g.S.Source.reads l.source;
  reads : g.S.Source.reads l.source ≤ g.S.Source.reads l.fn.source + length l.text;
}

abbrev pub decreases-loop-count : goal.decreases-loop-count
decreases-loop-count g l = l.limit - length l.text
