-- Tables of the positions of a body.
use Rattle.std.specs.Prelude.{◌≡◌, ◌<◌, ℕ, List, Option, Some, None, length, slice_get, slice_index}
use Rattle.hhbc_repo.specs.declared.body.Position.{Position}
use Rattle.hhbc_repo.specs.Canonical.{how_many, label_at}

-- how often each number below the size is among these
pub record Tallied (size : ℕ) (numbers counts : List ℕ) : Type 0 where
  pub long : length counts ≡ size
  pub at : (p : ℕ) → p < length counts → slice_index counts p ≡ how_many p numbers

abbrev pub entry : Option (Option ℕ) → Option ℕ
entry None = None
entry (Some label) = label

-- the number of each position's label
pub record Labels (all : List Position) (labels : List (Option ℕ)) : Type 0 where
  pub at : (p : ℕ) → entry (slice_get labels p) ≡ label_at all p
