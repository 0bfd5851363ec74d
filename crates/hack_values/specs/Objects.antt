-- Values that hold no object, at any depth.
use Rattle.std.specs.Prelude.{Bool, true, false, ◌&&◌}
use Rattle.hack_values.specs.Val.{Val, Vals, Pairs}
use Rattle.hack_values.specs.Val.Val.{null, bool, int, str, vec, dict, keyset, obj}
use Rattle.hack_values.specs.Val.Vals.{none, more}
use Rattle.hack_values.specs.Val.Pairs.{no_pair, pair}

abbrev mutual
  pub no_object : Val → Bool
  no_object null = true
  no_object (bool b) = true
  no_object (int i) = true
  no_object (str s) = true
  no_object (vec vs) = no_object_in vs
  no_object (dict ps) = no_object_under ps
  no_object (keyset ks) = true
  no_object (obj n) = false

  pub no_object_in : Vals → Bool
  no_object_in none = true
  no_object_in (more v vs) = no_object v && no_object_in vs

  pub no_object_under : Pairs → Bool
  no_object_under no_pair = true
  no_object_under (pair k v ps) = no_object v && no_object_under ps
