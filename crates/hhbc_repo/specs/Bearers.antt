-- Names, each once, with the numbers of all that bear it.
use Rattle.std.specs.Prelude.{ℕ, List, [], Option, None, Some, slice_get}
use Rattle.hhbc_repo.specs.LinkFaults.{Name, at_class, place_in}

pub record Bearers : Type 0 where
  pub names : List Name
  pub numbers : List (List ℕ)

abbrev pub numbers_at : List (List ℕ) → Option ℕ → List ℕ
numbers_at all None = []
numbers_at all (Some place) = at_class (slice_get all place)

-- the numbers of what bears a name
abbrev pub borne : Bearers → Name → List ℕ
borne t name = numbers_at t.numbers (place_in t.names name)
