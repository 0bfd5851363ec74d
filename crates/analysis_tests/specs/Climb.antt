-- Flows of a small graph, on which the worklist is run: 0 to 1, 1 to 2, from 2 back to 1 and on to 3, and from 4 to 3.
-- A state is a level, and behind a position it is at least the position's number.
use Rattle.std.specs.Prelude.{ℕ, zero, suc, ◌<◌, max, List, [], ◌∷◌}

abbrev pub targets : ℕ → List ℕ
targets zero = 1 ∷ []
targets (suc zero) = 2 ∷ []
targets (suc (suc zero)) = 1 ∷ 3 ∷ []
targets (suc (suc (suc zero))) = []
targets (suc (suc (suc (suc n)))) = 3 ∷ []

-- a flow of this level to each of these positions
abbrev pub all_to : List ℕ → ℕ → List (ℕ × ℕ)
all_to [] level = []
all_to (q ∷ qs) level = (q, level) ∷ all_to qs level

abbrev pub climbs : ℕ → ℕ → List (ℕ × ℕ)
climbs p level = all_to (targets p) (max level p)

abbrev pub IsLevel : ℕ → ℕ → Type 0
IsLevel p level = (p < 5) × (level < 5)
