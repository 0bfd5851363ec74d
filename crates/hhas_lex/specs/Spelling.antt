-- The canonical spelling of a token, and what may follow it.
use Rattle.std.specs.Prelude.{◌≡◌, ℕ, Bool, true, false, not, ◌&&◌, ◌==◌, List, [], ◌∷◌, length, nat_le, nat_lt}
use Rattle.std.specs.List.{list_all}
use Rattle.std.specs.Fmt.{signed_decimal}
use Rattle.hack_values.specs.Limits.{max_text}
use Rattle.hack_values.specs.Literal.{literal}
use Rattle.hhas_lex.specs.Bytes.{is_lower, is_word_start, is_word_byte, is_digit, is_mark, is_name}
use Rattle.hhas_lex.specs.Shape.{is_int64}
use Rattle.hhas_lex.specs.Tokens.{Token, Directive, Word, Local, Integer, Str, Mark, LessEqual, End, Bad}

abbrev pub is_word : List ℕ → Bool
is_word bytes = is_name is_word_start is_word_byte bytes && nat_le (length bytes) 100

abbrev pub is_byte : ℕ → Bool
is_byte b = nat_lt b 256

abbrev pub is_string : List ℕ → Bool
is_string bytes = list_all is_byte bytes && nat_le (length bytes) max_text

-- a token that stands in a text, before its end
abbrev pub is_proper : Token → Bool
is_proper (Directive letters) = is_name is_lower is_lower letters
is_proper (Word bytes) = is_word bytes
is_proper (Local bytes) = is_word bytes
is_proper (Integer i) = is_int64 i
is_proper (Str bytes) = is_string bytes
is_proper (Mark b) = is_mark b
is_proper LessEqual = true
is_proper End = false
is_proper Bad = false

abbrev pub spelling : Token → List ℕ
spelling (Directive letters) = 46 ∷ letters
spelling (Word bytes) = bytes
spelling (Local bytes) = 36 ∷ bytes
spelling (Integer i) = signed_decimal i
spelling (Str bytes) = literal bytes
spelling (Mark b) = b ∷ []
spelling LessEqual = 60 ∷ 61 ∷ []
spelling End = []
spelling Bad = []

-- the first byte fails the test
abbrev pub Stops : (ℕ → Bool) → List ℕ → Type 0
Stops test [] = Unit {0}
Stops test (b ∷ bs) = test b ≡ false

-- the bytes don't go on with the token
abbrev pub Apart : Token → List ℕ → Type 0
Apart (Directive letters) rest = Stops is_lower rest
Apart (Word bytes) rest = Stops is_word_byte rest
Apart (Local bytes) rest = Stops is_word_byte rest
Apart (Integer i) rest = Stops is_digit rest
Apart (Str bytes) rest = Unit {0}
Apart (Mark b) rest = Stops (λ c. b == 60 && c == 61) rest
Apart LessEqual rest = Unit {0}
Apart End rest = Unit {0}
Apart Bad rest = Unit {0}

-- whether its spelling begins with a byte that goes on with no word, directive or integer
abbrev pub is_set_off : Token → Bool
is_set_off (Directive letters) = true
is_set_off (Local bytes) = true
is_set_off (Str bytes) = true
is_set_off (Mark b) = true
is_set_off LessEqual = true
is_set_off (Word bytes) = false
is_set_off (Integer i) = false
is_set_off End = false
is_set_off Bad = false

abbrev pub is_equals : Token → Bool
is_equals (Mark b) = b == 61
is_equals (Directive letters) = false
is_equals (Local bytes) = false
is_equals (Str bytes) = false
is_equals LessEqual = false
is_equals (Word bytes) = false
is_equals (Integer i) = false
is_equals End = false
is_equals Bad = false

-- whether the second may stand directly behind the first
abbrev pub touches : Token → Token → Bool
touches (Directive letters) next = is_set_off next
touches (Word bytes) next = is_set_off next
touches (Local bytes) next = is_set_off next
touches (Integer i) next = is_set_off next
touches (Str bytes) next = true
touches (Mark b) next = not (b == 60 && is_equals next)
touches LessEqual next = true
touches End next = true
touches Bad next = true
