-- Elements with bars between them, each of a line of its own, the lines ascending.
use Rattle.std.specs.Prelude.{◌≡◌, ◌≤◌, ℕ, Bool, true, List, [], ◌∷◌, map}
use Rattle.std.specs.List.{list_all}
use Rattle.hhas_lex.specs.Tokens.{Mark}
use Rattle.hhbc_repo.specs.Languages.{Lang, Says, Behind, Either, Separated}
use Rattle.hhbc_repo.specs.TypeSyntax.{Ascend}

-- an element that may stand from a line on
abbrev pub Elem : {V W : Type 0} → (V → W) → Lang W → (W → ℕ) → (W → Bool) → ℕ → Lang V
Elem g A line ok least ts v = A ts (g v) × (least ≤ line (g v)) × (ok (g v) ≡ true)

abbrev pub Rising : {V W : Type 0} → (V → W) → Lang W → (W → ℕ) → (W → Bool) → ℕ → Lang (List V)
Rising g A line ok least ts vs = Separated 124 A ts (map g vs) × Ascend least (map line (map g vs)) × (list_all ok (map g vs) ≡ true)

-- what stands behind an element
abbrev pub More : {V W : Type 0} → (V → W) → Lang W → (W → ℕ) → (W → Bool) → ℕ → Lang (List V)
More g A line ok least = Either (Says [] []) (Behind (Mark 124 ∷ []) (Rising g A line ok least))
