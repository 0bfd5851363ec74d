-- Languages: which lists of tokens spell which values. The grammar is made of them, one for each of its rules.
use Rattle.std.specs.Prelude.{◌≡◌, ℕ, List, [], ◌∷◌, ◌++◌, ◌⊎◌, Option, Some, None}
use Rattle.hhas_lex.specs.Tokens.{Token, Mark}

abbrev pub Lang : Type 0 → Type 1
Lang V = List Token → V → Type 0

-- just these tokens, for one value
abbrev pub Says : {V : Type 0} → List Token → V → Lang V
Says words value ts v = (ts ≡ words) × (v ≡ value)

-- these tokens, and then what A spells
pub record Behind {V : Type 0} (words : List Token) (A : Lang V) (ts : List Token) (v : V) : Type 0 where
  pub rest : List Token
  pub word : A rest v
  pub tokens : ts ≡ words ++ rest

-- what A spells, and then these tokens
pub record Ended {V : Type 0} (A : Lang V) (words : List Token) (ts : List Token) (v : V) : Type 0 where
  pub first : List Token
  pub word : A first v
  pub tokens : ts ≡ first ++ words

-- what A spells, and then what B spells
pub record Both {V W : Type 0} (A : Lang V) (B : Lang W) (ts : List Token) (p : V × W) : Type 0 where
  pub first : List Token
  pub second : List Token
  pub left : A first p.0
  pub right : B second p.1
  pub tokens : ts ≡ first ++ second

-- what A spells, with another value
pub record Means {V W : Type 0} (f : V → W) (A : Lang V) (ts : List Token) (w : W) : Type 0 where
  pub value : V
  pub word : A ts value
  pub is : w ≡ f value

abbrev pub Either : {V : Type 0} → Lang V → Lang V → Lang V
Either A B ts v = A ts v ⊎ B ts v

-- what A spells, or nothing
abbrev pub Perhaps : {V : Type 0} → Lang V → Lang (Option V)
Perhaps A ts None = ts ≡ []
Perhaps A ts (Some v) = A ts v

-- none, one or several after each other
abbrev pub Many : {V : Type 0} → Lang V → Lang (List V)
Many A ts [] = ts ≡ []
Many A ts (v ∷ vs) = (a b : List Token) × A a v × Many A b vs × (ts ≡ a ++ b)

-- one or several, with a mark between them
abbrev pub Separated : {V : Type 0} → ℕ → Lang V → Lang (List V)
Separated mark A ts [] = ⊥
Separated mark A ts (v ∷ []) = A ts v
Separated mark A ts (v ∷ w ∷ vs) = (a b : List Token) × A a v × Separated mark A b (w ∷ vs) × (ts ≡ a ++ Mark mark ∷ b)
