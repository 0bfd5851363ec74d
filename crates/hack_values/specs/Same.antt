-- Whether two values are the same, part by part and in order.
use Rattle.std.specs.Prelude.{Bool, true, false, ◌&&◌, ◌==◌, List, [], ◌∷◌}
use Rattle.std.specs.Bool.{beq}
use Rattle.std.specs.Ordering.{int_eq}
use Rattle.std.specs.Str.{bytes_eq}
use Rattle.hack_values.specs.declared.cell.Cell.{Cell}
use Rattle.hack_values.specs.declared.key.Key.{Key}
use Rattle.hack_values.specs.Keys.{key_eq}
use Rattle.hack_values.specs.Val.{Val, Vals, Pairs}
use Rattle.hack_values.specs.Val.Val.{null, bool, int, str, vec, dict, keyset, obj}
use Rattle.hack_values.specs.Val.Vals.{none, more}
use Rattle.hack_values.specs.Val.Pairs.{no_pair, pair}
use Rattle.hack_values.specs.View.{val_of}

abbrev pub same_keys : List Key → List Key → Bool
same_keys [] [] = true
same_keys (k ∷ ks) (l ∷ ls) = key_eq k l && same_keys ks ls
same_keys _ _ = false

abbrev mutual
  pub same_val : Val → Val → Bool
  same_val null null = true
  same_val (bool a) (bool b) = beq a b
  same_val (int a) (int b) = int_eq a b
  same_val (str a) (str b) = bytes_eq a b
  same_val (vec a) (vec b) = same_vals a b
  same_val (dict a) (dict b) = same_pairs a b
  same_val (keyset a) (keyset b) = same_keys a b
  same_val (obj a) (obj b) = a == b
  same_val _ _ = false

  pub same_vals : Vals → Vals → Bool
  same_vals none none = true
  same_vals (more v vs) (more w ws) = same_val v w && same_vals vs ws
  same_vals _ _ = false

  pub same_pairs : Pairs → Pairs → Bool
  same_pairs no_pair no_pair = true
  same_pairs (pair k v ps) (pair l w qs) = key_eq k l && (same_val v w && same_pairs ps qs)
  same_pairs _ _ = false

abbrev pub is_same : Cell → Cell → Bool
is_same a b = same_val (val_of a) (val_of b)
