-- Walks up a tree, as the test of a list of parents makes them.
use Rattle.std.specs.Prelude.{◌≡◌, ◌<◌, ℕ, zero, suc, Bool, true, false, Option, Some, None, length, ltb}
use Rattle.type_lattice.specs.Classes.{Tree, parent_of}

-- a parent, where there is one, is among the first n classes
abbrev pub inside : ℕ → Option ℕ → Bool
inside n None = true
inside n (Some p) = ltb p n

abbrev pub no_parent : Option ℕ → Bool
no_parent None = true
no_parent (Some p) = false

abbrev pub ends_on : (ℕ → Bool) → Option ℕ → Bool
ends_on next None = true
ends_on next (Some p) = next p

-- the way up from a class ends within n steps
abbrev pub ends : ℕ → Tree → ℕ → Bool
ends zero tree c = no_parent (parent_of tree c)
ends (suc n) tree c = ends_on (ends n tree) (parent_of tree c)

-- it does from each of the first n classes
abbrev pub AllEnded : Tree → ℕ → Type 0
AllEnded tree n = (c : ℕ) → c < n → ends (length tree) tree c ≡ true

-- from some class it doesn't
abbrev pub SomeUnended : Tree → Type 0
SomeUnended tree = (c : ℕ) × (c < length tree) × (ends (length tree) tree c ≡ false)
