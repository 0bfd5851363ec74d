-- A value as text.
use Rattle.std.specs.Prelude.{ℕ, true, false, List, [], ◌∷◌, ◌++◌, map, codes, decimal}
use Rattle.std.specs.Fmt.{signed_decimal}
use Rattle.hack_values.specs.declared.key.Key.{Key}
use Rattle.hack_values.specs.declared.key.Key.TheVariants as key
use Rattle.hack_values.specs.Literal.{literal}
use Rattle.hack_values.specs.Val.{Val, Vals, Pairs}
use Rattle.hack_values.specs.Val.Val.{null, bool, int, str, vec, dict, keyset, obj}
use Rattle.hack_values.specs.Val.Vals.{none, more}
use Rattle.hack_values.specs.Val.Pairs.{no_pair, pair}

abbrev pub show_key : Key → List ℕ
show_key (key.Int n) = signed_decimal n
show_key (key.Str s) = literal s

-- texts with a comma and a space between them
abbrev pub after_comma : List (List ℕ) → List ℕ
after_comma [] = []
after_comma (s ∷ ss) = codes ", " ++ (s ++ after_comma ss)

abbrev pub with_commas : List (List ℕ) → List ℕ
with_commas [] = []
with_commas (s ∷ ss) = s ++ after_comma ss

-- what stands between a container's name and its end
abbrev pub bracketed : List ℕ → List (List ℕ) → List ℕ
bracketed name texts = name ++ (with_commas texts ++ 93 ∷ [])

abbrev mutual
  pub show_val : Val → List ℕ
  show_val null = codes "null"
  show_val (bool true) = codes "true"
  show_val (bool false) = codes "false"
  show_val (int n) = signed_decimal n
  show_val (str s) = literal s
  show_val (vec vs) = bracketed (codes "vec[") (show_vals vs)
  show_val (dict ps) = bracketed (codes "dict[") (show_pairs ps)
  show_val (keyset ks) = bracketed (codes "keyset[") (map show_key ks)
  show_val (obj n) = codes "object #" ++ decimal n

  pub show_vals : Vals → List (List ℕ)
  show_vals none = []
  show_vals (more v vs) = show_val v ∷ show_vals vs

  pub show_pairs : Pairs → List (List ℕ)
  show_pairs no_pair = []
  show_pairs (pair k v ps) = (show_key k ++ (codes " => " ++ show_val v)) ∷ show_pairs ps
