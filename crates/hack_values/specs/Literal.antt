-- Strings as literals spell them.
use Rattle.std.specs.Prelude.{ℕ, ◌+◌, ◌/◌, ◌%◌, ◌==◌, ◌||◌, ◌&&◌, nat_lt, nat_le, Bool, List, [], ◌∷◌, ◌++◌, if◌then◌else◌}
use Rattle.std.specs.List.{flat_map}

-- a hexadecimal digit, in lower case
abbrev pub hex_digit : ℕ → ℕ
hex_digit d = if nat_lt d 10 then 48 + d else 87 + d

-- the bytes 32 to 126
abbrev pub is_printable : ℕ → Bool
is_printable b = nat_le 32 b && nat_le b 126

-- how a byte stands in a literal: `\n`, `\"`, `\\`, itself where it is printable, or `\x` and two hexadecimal digits
abbrev pub literal_byte : ℕ → List ℕ
literal_byte b =
    if b == 10 then 92 ∷ 110 ∷ []
    else if b == 34 || b == 92 then 92 ∷ b ∷ []
    else if is_printable b then b ∷ []
    else 92 ∷ 120 ∷ hex_digit (b / 16) ∷ hex_digit (b % 16) ∷ []

-- a string's literal
abbrev pub literal : List ℕ → List ℕ
literal s = 34 ∷ (flat_map literal_byte s ++ 34 ∷ [])
