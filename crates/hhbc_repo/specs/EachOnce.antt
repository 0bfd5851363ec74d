-- Numbers of which each is kept once, and what is still to come of them.
use Rattle.std.specs.Prelude.{ℕ, Bool, ◌==◌, List, [], ◌∷◌, ◌++◌, Option, Some, None, if◌then◌else◌}
use Rattle.std.specs.List.{list_any}
use Rattle.hhbc_repo.specs.Codes.{each_once}

abbrev pub is_among : List ℕ → ℕ → Bool
is_among ns n = list_any (λ m. m == n) ns

-- the numbers that aren't among the first ones
abbrev pub left : List ℕ → List ℕ → List ℕ
left out [] = []
left out (n ∷ ns) = if is_among out n then left out ns else n ∷ left out ns

-- the list with those further numbers that it hasn't, each once
abbrev pub joined : List ℕ → List ℕ → List ℕ
joined out ns = out ++ left out (each_once ns)

abbrev pub perhaps : Option ℕ → List ℕ
perhaps None = []
perhaps (Some n) = n ∷ []
