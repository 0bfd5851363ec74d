-- What a name finds.
use Rattle.std.specs.Prelude.{ℕ, List, [], ◌∷◌, Option, Some, None, if◌then◌else◌}
use Rattle.std.specs.Str.{bytes_eq}

-- the first of these whose spelling is the name
abbrev pub first_named : {A : Type 0} → (A → List ℕ) → List A → List ℕ → Option A
first_named spelling [] name = None
first_named spelling (x ∷ more) name = if bytes_eq (spelling x) name then Some x else first_named spelling more name
