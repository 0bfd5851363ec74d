-- Handlers that are put for the positions of a try body.
use Rattle.std.specs.Prelude.{ℕ, nat_le, nat_lt, ◌&&◌, List, map, Option, Some, None, if◌then◌else◌}
use Rattle.hhbc_repo.specs.Bodies.{numbers}

abbrev pub flat : Option (Option ℕ) → Option ℕ
flat None = None
flat (Some o) = o

-- what each of so many positions has
abbrev pub handled : (ℕ → Option ℕ) → ℕ → List (Option ℕ)
handled f n = map f (numbers 0 n)

-- of two handlers the one that stands first
abbrev pub lowered : ℕ → Option ℕ → ℕ
lowered m None = m
lowered m (Some k) = if nat_le m k then m else k

-- a handler at m for the positions from the first below the last, where they haven't one before it
abbrev pub lowered_from : ℕ → ℕ → ℕ → (ℕ → Option ℕ) → ℕ → Option ℕ
lowered_from first last m f q = if nat_le first q && nat_lt q last then Some (lowered m (f q)) else f q
