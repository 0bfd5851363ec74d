-- Keys, lists of distinct keys, and lists of entries, which are pairs of a key and something.
use Rattle.std.specs.Prelude.{ℕ, zero, suc, ◌+◌, ◌-◌, ◌^◌, min, Bool, true, false, List, [], ◌∷◌, ◌++◌, length, cond, Option, Some, None}
use Rattle.std.specs.Ordering.{int_eq}
use Rattle.std.specs.Str.{bytes_eq}
use Rattle.std.specs.List.{fold, position, remove}
use Rattle.std.specs.Map.{keys_of}
use Rattle.hack_values.specs.declared.key.Key.{Key}
use Rattle.hack_values.specs.declared.key.Key.TheVariants.{Int, Str}

-- whether two keys are equal
abbrev pub key_eq : Key → Key → Bool
key_eq (Int a) (Int b) = int_eq a b
key_eq (Str a) (Str b) = bytes_eq a b
key_eq _ _ = false

-- whether a key stands in a list
abbrev pub has_key : Key → List Key → Bool
has_key key [] = false
has_key key (k ∷ ks) = cond (key_eq key k) true (has_key key ks)

-- whether no key stands twice
abbrev pub distinct : List Key → Bool
distinct [] = true
distinct (k ∷ ks) = cond (has_key k ks) false (distinct ks)

-- where a key stands first
abbrev pub place : Key → List Key → Option ℕ
place key ks = position (key_eq key) ks

-- a list without what stands at a place, if there is one
abbrev pub without : {X : Type 0} → Option ℕ → List X → List X
without None xs = xs
without (Some at) xs = remove xs at

-- the keys without a key
abbrev pub remove_key : Key → List Key → List Key
remove_key key ks = without (place key ks) ks

-- the entries without a key's
abbrev pub remove_entry : {V : Type 0} → Key → List (Key × V) → List (Key × V)
remove_entry key es = without (place key (keys_of es)) es

abbrev pub with_key_at : Option ℕ → List Key → Key → List Key
with_key_at None ks key = ks ++ key ∷ []
with_key_at (Some at) ks key = ks

-- the keys with a key: one that is there keeps its place, and a new one goes last
abbrev pub with_key : List Key → Key → List Key
with_key ks key = with_key_at (place key ks) ks key

-- the keys, each once, where it comes first
abbrev pub keys_put : List Key → List Key
keys_put ks = fold with_key [] ks

-- the entries with another value at a place
abbrev pub set_value : {V : Type 0} → List (Key × V) → ℕ → V → List (Key × V)
set_value [] at v = []
set_value (e ∷ es) zero v = (e.0, v) ∷ es
set_value (e ∷ es) (suc at) v = e ∷ set_value es at v

abbrev pub put_at : {V : Type 0} → Option ℕ → List (Key × V) → Key → V → List (Key × V)
put_at None es key v = es ++ (key, v) ∷ []
put_at (Some at) es key v = set_value es at v

-- the entries with a value under a key: a key that is there keeps its place, and a new one goes last
abbrev pub put_entry : {V : Type 0} → List (Key × V) → Key → V → List (Key × V)
put_entry es key v = put_at (place key (keys_of es)) es key v

abbrev pub put_pair : {V : Type 0} → List (Key × V) → Key × V → List (Key × V)
put_pair es e = put_entry es e.0 e.1

-- the entries, put one after another
abbrev pub entries_put : {V : Type 0} → List (Key × V) → List (Key × V)
entries_put es = fold put_pair [] es

-- the weight of a key: 1, and a text's bytes beside
abbrev pub key_weight : Key → ℕ
key_weight (Int n) = 1
key_weight (Str s) = 1 + length s

abbrev pub keys_weight : List Key → ℕ
keys_weight [] = 0
keys_weight (k ∷ ks) = key_weight k + keys_weight ks

-- a number as a u32, which stays at its greatest value
abbrev pub capped : ℕ → ℕ
capped n = min n (2 ^ 32 - 1)
