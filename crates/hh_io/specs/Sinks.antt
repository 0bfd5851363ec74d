-- What a sink has taken, where it tells it. A sink that tells nothing goes on to tell nothing.
use Rattle.std.specs.Prelude.{◌≡◌, ℕ, ◌+◌, ◌<◌, ◌≤◌, ⊤, Result, List, ◌++◌, Option, Some, None, length, take, MatchResult}

-- the sink took these bytes; nothing is said where it tells nothing any more
abbrev pub Takes : Option (List ℕ) → Option (List ℕ) → List ℕ → Type 0
Takes None None bytes = ⊤
Takes None (Some new) bytes = ⊥
Takes (Some old) None bytes = ⊤
Takes (Some old) (Some new) bytes = new ≡ old ++ bytes

-- the sink took nothing
abbrev pub TakesNothing : Option (List ℕ) → Option (List ℕ) → Type 0
TakesNothing None None = ⊤
TakesNothing None (Some new) = ⊥
TakesNothing (Some old) None = ⊤
TakesNothing (Some old) (Some new) = new ≡ old

-- a write took a prefix of the piece, of at least one byte unless the piece has none, or failed and took nothing
abbrev pub WriteTakes : {E : Type 0} → Option (List ℕ) → Option (List ℕ) → Result ℕ E → List ℕ → Type 0
WriteTakes old new result piece =
    MatchResult result (λ n. (n ≤ length piece) × (0 < length piece → 0 < n) × Takes old new (take n piece)) (λ _. TakesNothing old new)

-- a part of the bytes that isn't all of them was taken
abbrev pub TakesPart : Option (List ℕ) → Option (List ℕ) → List ℕ → Type 0
TakesPart old new bytes = (n : ℕ) × (n < length bytes) × Takes old new (take n bytes)

-- a sink that told its bytes tells them still, or has taken more of them than its room
abbrev pub TellsOn : Option (List ℕ) → Option (List ℕ) → ℕ → ℕ → Type 0
TellsOn (Some old) None room count = room < length old + count
TellsOn (Some old) (Some new) room count = ⊤
TellsOn None new room count = ⊤

-- the same of a write
abbrev pub WriteTellsOn : {E : Type 0} → Option (List ℕ) → Option (List ℕ) → ℕ → Result ℕ E → Type 0
WriteTellsOn old new room result = MatchResult result (TellsOn old new room) (λ _. TellsOn old new room 0)
