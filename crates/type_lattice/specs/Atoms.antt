-- Atoms that are written behind others, with bars between them.
use Rattle.std.specs.Prelude.{◌≡◌, ℕ, Bool, true, false, List, [], ◌∷◌, ◌++◌}
use Rattle.std.specs.List.{flat_map}
use Rattle.type_lattice.specs.TypeText.{barred}

-- a bar, but before the first atom
abbrev pub bar : Bool → List ℕ
bar true = []
bar false = 124 ∷ []

-- whether an atom behind these is the first
abbrev pub first_behind : Bool → List (List ℕ) → Bool
first_behind first [] = first
first_behind first (a ∷ more) = false

-- what these add, where the first of them is the first of all or not
abbrev pub sequel : Bool → List (List ℕ) → List ℕ
sequel first [] = []
sequel first (a ∷ more) = bar first ++ (a ++ flat_map barred more)

-- they are written behind what stands, and it is told whether the next is still the first
pub record Adds (first : Bool) (atoms : List (List ℕ)) (old new : List ℕ) (still : Bool) : Type 0 where
  pub text : new ≡ old ++ sequel first atoms
  pub told : still ≡ first_behind first atoms
