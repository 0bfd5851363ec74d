-- What stays as a run goes on.
use Rattle.std.specs.Prelude.{◌≡◌, ℕ, Some}
use Rattle.type_lattice.specs.Member.{Heap, class_at}
use Rattle.hhbc_semantics.specs.Frames.{World}

-- the objects of the first heap are in the second, and are of the same classes
abbrev pub HeapGrows : Heap → Heap → Type 0
HeapGrows h k = (n c : ℕ) → class_at h n ≡ Some c → class_at k n ≡ Some c

abbrev pub WorldGrows : World → World → Type 0
WorldGrows v w = HeapGrows v.heap w.heap
