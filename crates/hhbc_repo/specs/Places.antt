-- Where objects keep their properties, and what bears a name.
use Rattle.std.specs.Prelude.{ℕ, suc, ◌+◌, List, [], ◌∷◌, ◌++◌, Option, Some, None, length, slice_get, nat_eq, if◌then◌else◌}
use Rattle.std.specs.List.{flat_map, position}
use Rattle.hhbc_repo.specs.Bodies.{properties_of}
use Rattle.hhbc_repo.specs.Linked.{Linked}
use Rattle.hhbc_repo.specs.LinkFaults.{Name, at_class, is_name, place_in}
use Rattle.hhbc_repo.specs.LookUps.{all_methods, all_properties, property_of}

-- where a number stands among others, the first of it
abbrev pub place_among : List ℕ → Option ℕ → Option ℕ
place_among numbers None = None
place_among numbers (Some n) = position (nat_eq n) numbers

-- where an object of the class keeps its property of the name
abbrev pub place_of : Linked → ℕ → Name → Option ℕ
place_of r c name = place_among (properties_of r c) (property_of r c name)

-- the same from a class on upwards. Each class stands behind those further up: where the name was found further down, so many more
-- stand before it
abbrev pub place_here : List (List Name) → Name → Option ℕ → ℕ → Option ℕ
place_here table name None c = place_in (at_class (slice_get table c)) name
place_here table name (Some p) c = Some (p + length (at_class (slice_get table c)))

abbrev pub place_up : List (List Name) → Name → Option ℕ → List ℕ → Option ℕ
place_up table name found [] = found
place_up table name found (c ∷ cs) = place_up table name (place_here table name found c) cs

-- the numbers of those that have the name, where they are numbered from a first number on
abbrev pub bearers : ℕ → List Name → Name → List ℕ
bearers n [] name = []
bearers n (other ∷ more) name = (if is_name name other then n ∷ [] else []) ++ bearers (suc n) more name

-- the names of all classes in one list
abbrev pub together : List (List Name) → List Name
together table = flat_map (λ (names : List Name). names) table

-- the methods of a name, whichever class declares them, and the properties
abbrev pub methods_named : Linked → Name → List ℕ
methods_named r name = bearers (length r.functions) (together (all_methods r)) name

abbrev pub properties_named : Linked → Name → List ℕ
properties_named r name = bearers 0 (together (all_properties r)) name
