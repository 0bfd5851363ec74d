-- Numbers of names, of which each keeps the first that it is given.
use Rattle.std.specs.Prelude.{◌≡◌, ℕ, List, [], ◌∷◌, ◌++◌, Option, length, if◌then◌else◌}
use Rattle.hhbc_repo.specs.LinkFaults.{Name, names, place_in}
use Rattle.hhbc_repo.specs.LookUps.{number_at}

-- different names, and the number of each
pub record Numbers : Type 0 where
  pub known : List Name
  pub firsts : List ℕ

abbrev pub none : Numbers
none = record { known = []; firsts = [] }

abbrev pub number_of : Numbers → Name → Option ℕ
number_of t name = number_at t.firsts (place_in t.known name)

abbrev pub put : Numbers → Name → ℕ → Numbers
put t name n = if names t.known name then t else record { known = t.known ++ name ∷ []; firsts = t.firsts ++ n ∷ [] }

-- each of the names is found at its first place
abbrev pub Finds : Numbers → List Name → Type 0
Finds t all = (length t.known ≡ length t.firsts) × ((name : Name) → number_of t name ≡ place_in all name)
