-- What passes a limit.
use Rattle.std.specs.Prelude.{ℕ, ◌≤◌, ◌<◌}
use Rattle.hack_values.specs.Val.{Val, weight, depth}

-- the greatest weight and the greatest depth of a value
abbrev pub max_weight : ℕ
max_weight = 4194304

abbrev pub max_depth : ℕ
max_depth = 64

-- the most bytes of a text
abbrev pub max_text : ℕ
max_text = 1048576

abbrev pub IsTooLarge : Val → Type 0
IsTooLarge v = max_weight < weight v

-- too deep, where the weight is within its limit
abbrev pub IsTooDeep : Val → Type 0
IsTooDeep v = (weight v ≤ max_weight) × (max_depth < depth v)

-- within both limits
abbrev pub IsWithin : Val → Type 0
IsWithin v = (weight v ≤ max_weight) × (depth v ≤ max_depth)
