-- What classes declare, with the number of each class's first.
use Rattle.std.specs.Prelude.{◌≡◌, ℕ, ◌+◌, ◌<◌, ◌^◌, List, [], ◌∷◌, map, length}
use Rattle.hhbc_repo.specs.declared.members.Row.{Row}
use Rattle.hhbc_repo.specs.LookUps.{total}

-- the number at which each class's begin
abbrev pub starts : ℕ → List (List (List ℕ)) → List ℕ
starts first [] = []
starts first (ns ∷ more) = first ∷ starts (first + length ns) more

abbrev pub names_of : List Row → List (List (List ℕ))
names_of rows = map (λ (r : Row). r.names) rows

pub record Counted (first : ℕ) (next : ℕ) (rows : List Row) : Type 0 where
  pub firsts : map (λ (r : Row). r.first) rows ≡ starts first (names_of rows)
  pub last : next ≡ first + total (names_of rows)
  pub fits : next < 2 ^ 32
