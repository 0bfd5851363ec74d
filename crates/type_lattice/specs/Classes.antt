-- Classes below others. A tree is a list with the parent of each class, where it has one.
use Rattle.std.specs.Prelude.{◌≡◌, ◌≤◌, ℕ, zero, suc, Bool, false, List, [], ◌∷◌, Option, Some, None, length, slice_get, ◌==◌, ◌||◌, cond}

abbrev pub Tree : Type 0
Tree = List (Option ℕ)

abbrev pub flat : Option (Option ℕ) → Option ℕ
flat None = None
flat (Some o) = o

-- the parent of a class, where the class is in the tree and has one
abbrev pub parent_of : Tree → ℕ → Option ℕ
parent_of tree c = flat (slice_get tree c)

abbrev pub chain_on : (ℕ → List ℕ) → Option ℕ → List ℕ
chain_on next None = []
chain_on next (Some p) = next p

-- a class and at most n of its ancestors, the nearest first
abbrev pub chain_within : ℕ → Tree → ℕ → List ℕ
chain_within zero tree c = c ∷ []
chain_within (suc n) tree c = c ∷ chain_on (chain_within n tree) (parent_of tree c)

-- a class and its ancestors, the nearest first
abbrev pub chain : Tree → ℕ → List ℕ
chain tree c = chain_within (length tree) tree c

abbrev pub has : ℕ → List ℕ → Bool
has c [] = false
has c (d ∷ ds) = c == d || has c ds

-- a is b or descends from b
abbrev pub below : Tree → ℕ → ℕ → Bool
below tree a b = has b (chain tree a)

abbrev pub climb_on : (ℕ → Option ℕ) → Option ℕ → Option ℕ
climb_on next None = None
climb_on next (Some p) = next p

-- the class that is n steps above
abbrev pub climb : ℕ → Tree → ℕ → Option ℕ
climb zero tree c = Some c
climb (suc n) tree c = climb_on (climb n tree) (parent_of tree c)

-- some number of steps up lead from a to b
abbrev pub Descends : Tree → ℕ → ℕ → Type 0
Descends tree a b = (n : ℕ) × (climb n tree a ≡ Some b)

-- a class whose parent is out of range
abbrev pub HasStray : Tree → Type 0
HasStray tree = (c : ℕ) × (p : ℕ) × (parent_of tree c ≡ Some p) × (length tree ≤ p)

-- a class that one step or more lead back to
abbrev pub HasCycle : Tree → Type 0
HasCycle tree = (c : ℕ) × (n : ℕ) × (climb (suc n) tree c ≡ Some c)

-- each parent is a class of the tree, and no class descends from itself
pub record Forest (tree : Tree) : Type 0 where
  pub within : HasStray tree → ⊥
  pub acyclic : HasCycle tree → ⊥

-- the first that passes a test
abbrev pub first : (ℕ → Bool) → List ℕ → Option ℕ
first test [] = None
first test (c ∷ cs) = cond (test c) (Some c) (first test cs)

-- the nearest class that both are or descend from
abbrev pub nearest : Tree → ℕ → ℕ → Option ℕ
nearest tree a b = first (below tree b) (chain tree a)

-- both descend from or are the class, and it descends from or is each other class of which that holds; without a class there is none
abbrev pub IsNearest : Tree → ℕ → ℕ → Option ℕ → Type 0
IsNearest tree a b None = (e : ℕ) → Descends tree a e → Descends tree b e → ⊥
IsNearest tree a b (Some c) = Descends tree a c × Descends tree b c × ((e : ℕ) → Descends tree a e → Descends tree b e → Descends tree c e)
