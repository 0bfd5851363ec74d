use Rattle.std.proofs.Common.{◌≡◌, ◌+◌, ◌++◌, ℕ, List, drop, take}
use Rattle.hhbc_repo.specs.Bearers.{borne}
use Rattle.hhbc_repo.specs.LookUps.{total}
use Rattle.hhbc_repo.specs.Members.{names_of}
use Rattle.hhbc_repo.specs.Places.{bearers, together}
use Rattle.hhbc_repo.proofs.bearers.bearers_among.Given as goal

abbrev pub invariant-loop-row : goal.invariant-loop-row
invariant-loop-row l =
    (name : List ℕ) → borne l.table name ++ bearers (l.members.first + total (names_of (take l.row-index l.row-items))) (together (names_of (drop l.row-index l.row-items))) name
    ≡ bearers l.members.first (together (names_of l.row-items)) name
