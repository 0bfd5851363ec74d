-- Values to any depth, for what is defined by recursion over them. A clause speaks of a `Cell`, whose containers are lists of these (`View`).
use Rattle.std.specs.Prelude.{◌≡◌, ℕ, ◌+◌, max, List, [], ◌∷◌, length, Bool, ℤ, refl}
use Rattle.std.proofs.Common.{ap}
use Rattle.hack_values.specs.declared.key.Key.{Key}
use Rattle.hack_values.specs.Keys.{key_weight, keys_weight}

mutual
  -- a value
  pub data Val : Type 0 where
    null : Val
    bool : Bool → Val
    int : ℤ → Val
    str : List ℕ → Val
    vec : Vals → Val
    dict : Pairs → Val
    keyset : List Key → Val
    obj : ℕ → Val

  -- the elements of a vec
  pub data Vals : Type 0 where
    none : Vals
    more : Val → Vals → Vals

  -- the entries of a dict
  pub data Pairs : Type 0 where
    no_pair : Pairs
    pair : Key → Val → Pairs → Pairs

-- elements and entries as lists, and back
abbrev pub to_list : Vals → List Val
to_list none = []
to_list (more v vs) = v ∷ to_list vs

abbrev pub from_list : List Val → Vals
from_list [] = none
from_list (v ∷ vs) = more v (from_list vs)

abbrev pub to_pairs : Pairs → List (Key × Val)
to_pairs no_pair = []
to_pairs (pair k v ps) = (k, v) ∷ to_pairs ps

abbrev pub from_pairs : List (Key × Val) → Pairs
from_pairs [] = no_pair
from_pairs (e ∷ es) = pair e.0 e.1 (from_pairs es)

pub to-from_list : (vs : List Val) → to_list (from_list vs) ≡ vs
to-from_list [] = refl
to-from_list (v ∷ vs) = ap (λ rest. v ∷ rest) (to-from_list vs)

pub from-to_list : (vs : Vals) → from_list (to_list vs) ≡ vs
from-to_list none = refl
from-to_list (more v vs) = ap (more v) (from-to_list vs)

pub to-from_pairs : (es : List (Key × Val)) → to_pairs (from_pairs es) ≡ es
to-from_pairs [] = refl
to-from_pairs (e ∷ es) = ap (λ rest. e ∷ rest) (to-from_pairs es)

pub from-to_pairs : (ps : Pairs) → from_pairs (to_pairs ps) ≡ ps
from-to_pairs no_pair = refl
from-to_pairs (pair k v ps) = ap (pair k v) (from-to_pairs ps)

-- the weight of a value: 1, and the bytes of a text, and the weights of keys and elements
abbrev mutual
  pub weight : Val → ℕ
  weight null = 1
  weight (bool b) = 1
  weight (int i) = 1
  weight (str s) = 1 + length s
  weight (vec vs) = 1 + vals_weight vs
  weight (dict ps) = 1 + pairs_weight ps
  weight (keyset ks) = 1 + keys_weight ks
  weight (obj n) = 1

  pub vals_weight : Vals → ℕ
  vals_weight none = 0
  vals_weight (more v vs) = weight v + vals_weight vs

  pub pairs_weight : Pairs → ℕ
  pairs_weight no_pair = 0
  pairs_weight (pair k v ps) = key_weight k + (weight v + pairs_weight ps)

-- the depth of a value: 0, and for a container 1 more than the greatest depth of its elements
abbrev mutual
  pub depth : Val → ℕ
  depth null = 0
  depth (bool b) = 0
  depth (int i) = 0
  depth (str s) = 0
  depth (vec vs) = 1 + vals_depth vs
  depth (dict ps) = 1 + pairs_depth ps
  depth (keyset ks) = 1
  depth (obj n) = 0

  pub vals_depth : Vals → ℕ
  vals_depth none = 0
  vals_depth (more v vs) = max (depth v) (vals_depth vs)

  pub pairs_depth : Pairs → ℕ
  pairs_depth no_pair = 0
  pairs_depth (pair k v ps) = max (depth v) (pairs_depth ps)

-- the same for lists of elements and of entries
abbrev pub weights : List Val → ℕ
weights [] = 0
weights (v ∷ vs) = weight v + weights vs

abbrev pub depths : List Val → ℕ
depths [] = 0
depths (v ∷ vs) = max (depth v) (depths vs)

abbrev pub entry_weights : List (Key × Val) → ℕ
entry_weights [] = 0
entry_weights (e ∷ es) = key_weight e.0 + (weight e.1 + entry_weights es)

abbrev pub entry_depths : List (Key × Val) → ℕ
entry_depths [] = 0
entry_depths (e ∷ es) = max (depth e.1) (entry_depths es)

pub vals_weight-from_list : (vs : List Val) → vals_weight (from_list vs) ≡ weights vs
vals_weight-from_list [] = refl
vals_weight-from_list (v ∷ vs) = ap (λ rest. weight v + rest) (vals_weight-from_list vs)

pub pairs_weight-from_pairs : (es : List (Key × Val)) → pairs_weight (from_pairs es) ≡ entry_weights es
pairs_weight-from_pairs [] = refl
pairs_weight-from_pairs (e ∷ es) = ap (λ rest. key_weight e.0 + (weight e.1 + rest)) (pairs_weight-from_pairs es)

pub vals_depth-from_list : (vs : List Val) → vals_depth (from_list vs) ≡ depths vs
vals_depth-from_list [] = refl
vals_depth-from_list (v ∷ vs) = ap (λ rest. max (depth v) rest) (vals_depth-from_list vs)

pub pairs_depth-from_pairs : (es : List (Key × Val)) → pairs_depth (from_pairs es) ≡ entry_depths es
pairs_depth-from_pairs [] = refl
pairs_depth-from_pairs (e ∷ es) = ap (λ rest. max (depth e.1) rest) (pairs_depth-from_pairs es)

pub ruleset rows = (to-from_list, to-from_pairs, vals_weight-from_list, pairs_weight-from_pairs, vals_depth-from_list, pairs_depth-from_pairs)
