use Rattle.std.proofs.Common.{◌≡◌, ◌+◌, ◌++◌, ℕ, List, drop}
use Rattle.hhbc_repo.specs.Bearers.{borne}
use Rattle.hhbc_repo.specs.Names.{bytes_of}
use Rattle.hhbc_repo.specs.Places.{bearers}
use Rattle.hhbc_repo.proofs.bearers.Bearers.with_names.Given as goal

abbrev pub invariant-loop-key : goal.invariant-loop-key
invariant-loop-key l =
    (l.number ≡ l.first + l.key-index)
    × ((other : List ℕ) → borne l.table other ++ bearers l.number (bytes_of (drop l.key-index l.key-items)) other ≡ borne l.fn.self other ++ bearers l.first (bytes_of l.key-items) other)
