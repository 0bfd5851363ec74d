-- What is kept as a container's weight and depth is so, but for what stands at a place, where one is named.
use Rattle.std.specs.Prelude.{◌≡◌, ◌≤◌, ◌+◌, ℕ, List, IsTrue}
use Rattle.hack_values.specs.declared.known.Depth.{Depth}
use Rattle.hack_values.specs.declared.known.Known.{Known}
use Rattle.hack_values.specs.declared.key.Key.{Key}
use Rattle.hack_values.specs.Keys.{capped, without}
use Rattle.hack_values.specs.Val.{Val, weights, depths, entry_weights, entry_depths}

-- of a depth
pub record IsDepth (n : ℕ) (d : Depth) : Type 0 where
  pub covers : capped n ≤ d.at_most
  pub exact : IsTrue d.exact → d.at_most ≡ capped n

-- of the vec of some elements
pub record IsVecKnown (vs : List Val) (known : Known) : Type 0 where
  pub weighs : known.weight ≡ capped (1 + weights (without known.but vs))
  pub deep : IsDepth (1 + depths (without known.but vs)) known.depth

-- of the dict of some entries
pub record IsDictKnown (es : List (Key × Val)) (known : Known) : Type 0 where
  pub weighs : known.weight ≡ capped (1 + entry_weights (without known.but es))
  pub deep : IsDepth (1 + entry_depths (without known.but es)) known.depth
