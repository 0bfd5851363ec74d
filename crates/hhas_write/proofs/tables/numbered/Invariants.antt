use Rattle.std.proofs.Common.{◌≡◌, ◌<◌, ℕ, length, slice_get, Some}
use Rattle.hhbc_repo.specs.Canonical.{label_at, named_before}
use Rattle.hhas_write.proofs.tables.numbered.Given as goal

abbrev pub invariant-loop-count : goal.invariant-loop-count
invariant-loop-count l = record {
  long : length l.labels ≡ l.count-index;
  next : l.next ≡ named_before l.positions l.count-index;
  at : (p : ℕ) → p < l.count-index → slice_get l.labels p ≡ Some (label_at l.positions p);
}
