-- Kinds of bytes.
use Rattle.std.specs.Prelude.{ℕ, ◌-◌, ◌+◌, ◌*◌, Bool, false, ◌||◌, ◌&&◌, ◌==◌, List, [], ◌∷◌, Option, Some, None, nat_le, length, if◌then◌else◌}
use Rattle.std.specs.List.{take_while, list_all}

abbrev pub is_between : ℕ → ℕ → ℕ → Bool
is_between low high b = nat_le low b && nat_le b high

abbrev pub is_white : ℕ → Bool
is_white b = b == 32 || b == 9 || b == 10 || b == 13

abbrev pub is_lower : ℕ → Bool
is_lower b = is_between 97 122 b

-- what a word begins with
abbrev pub is_word_start : ℕ → Bool
is_word_start b = b == 95 || is_lower b || is_between 65 90 b

abbrev pub is_digit : ℕ → Bool
is_digit b = is_between 48 57 b

-- what a number but 0 begins with
abbrev pub is_leading_digit : ℕ → Bool
is_leading_digit b = is_between 49 57 b

-- what a word goes on with
abbrev pub is_word_byte : ℕ → Bool
is_word_byte b = is_word_start b || is_digit b || b == 92

-- one of { } ( ) < > , ; : = |
abbrev pub is_mark : ℕ → Bool
is_mark b = b == 123 || b == 125 || b == 40 || b == 41 || b == 60 || b == 62 || b == 44 || b == 59 || b == 58 || b == 61 || b == 124

-- what stands in a string as it is
abbrev pub is_plain : ℕ → Bool
is_plain b = is_between 32 126 b

-- the value of a hexadecimal digit of either case
abbrev pub hex_value : ℕ → Option ℕ
hex_value b =
    if is_digit b then Some (b - 48)
    else if is_between 97 102 b then Some (b - 87)
    else if is_between 65 70 b then Some (b - 55)
    else None

-- a byte that begins, and then bytes that go on
abbrev pub is_name : (ℕ → Bool) → (ℕ → Bool) → List ℕ → Bool
is_name begins goes_on [] = false
is_name begins goes_on (b ∷ bs) = begins b && list_all goes_on bs

-- how many bytes from the front pass
abbrev pub run_of : (ℕ → Bool) → List ℕ → ℕ
run_of p bytes = length (take_while p bytes)

-- the number that digits spell behind a number
abbrev pub number_from : ℕ → List ℕ → ℕ
number_from n [] = n
number_from n (d ∷ ds) = number_from (10 * n + (d - 48)) ds

abbrev pub number_of : List ℕ → ℕ
number_of ds = number_from 0 ds
