-- Strings, behind the quote that opens them.
use Rattle.std.specs.Prelude.{ℕ, ◌+◌, ◌<◌, ◌*◌, Bool, true, false, ◌||◌, ◌==◌, List, [], ◌∷◌, ◌++◌, Option, Some, None, if◌then◌else◌, fold}
use Rattle.std.specs.Option.{option_map, option_to_list}
use Rattle.hhas_lex.specs.declared.strings.Mode.{Mode}
use Rattle.hhas_lex.specs.declared.strings.Mode.TheVariants.{Plain, Escaped, High, Low, Closed, Broken}
use Rattle.hhas_lex.specs.Bytes.{is_plain, hex_value}

-- a hexadecimal digit's value is one
abbrev pub IsSmall : Mode → Type 0
IsSmall (Low high) = high < 16
IsSmall Plain = Unit {0}
IsSmall Escaped = Unit {0}
IsSmall High = Unit {0}
IsSmall Closed = Unit {0}
IsSmall Broken = Unit {0}

abbrev pub low_after : Option ℕ → Mode
low_after None = Broken
low_after (Some high) = Low high

abbrev pub plain_after : Option ℕ → Mode
plain_after None = Broken
plain_after (Some low) = Plain

-- how the reading of a string stands after one more byte
abbrev pub step : Mode → ℕ → Mode
step Plain b = if b == 34 then Closed else if b == 92 then Escaped else if is_plain b then Plain else Broken
step Escaped b = if b == 34 || b == 92 || b == 110 then Plain else if b == 120 then High else Broken
step High b = low_after (hex_value b)
step (Low high) b = plain_after (hex_value b)
step Closed b = Broken
step Broken b = Broken

-- the byte that stands in the value once this byte is read
abbrev pub given : Mode → ℕ → Option ℕ
given Plain b = if b == 34 || b == 92 then None else Some b
given Escaped b = if b == 120 then None else if b == 110 then Some 10 else Some b
given High b = None
given (Low high) b = option_map (λ low. 16 * high + low) (hex_value b)
given Closed b = None
given Broken b = None

abbrev pub is_closed : Mode → Bool
is_closed Closed = true
is_closed Plain = false
is_closed Escaped = false
is_closed High = false
is_closed (Low high) = false
is_closed Broken = false

-- whether the bytes are pieces of a string and the quote that closes it
abbrev pub closes : List ℕ → Bool
closes bytes = is_closed (fold step Plain bytes)

abbrev pub value_from : Mode → List ℕ → List ℕ
value_from mode [] = []
value_from mode (b ∷ bs) = option_to_list (given mode b) ++ value_from (step mode b) bs

-- the value of pieces
abbrev pub value_of : List ℕ → List ℕ
value_of bytes = value_from Plain bytes
