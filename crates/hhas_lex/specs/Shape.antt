-- What the spelling of a token looks like, and the longest token at the front of bytes.
use Rattle.std.specs.Prelude.{◌≡◌, ◌≢◌, ℕ, zero, suc, ◌<◌, ◌≤◌, ◌^◌, ℤ, pos, negsuc, neg_ℤ, Bool, true, false, ◌&&◌, List, [], ◌∷◌, length, take, drop, Option, Some, None, is_some, nat_lt, nat_le, ◌==◌, if◌then◌else◌}
use Rattle.std.specs.List.{list_all}
use Rattle.hack_values.specs.Limits.{max_text}
use Rattle.hhas_lex.specs.declared.token.TokenKind.{TokenKind}
use Rattle.hhas_lex.specs.declared.token.TokenKind.TheVariants.{Directive, Word, Local, Integer, Str, Mark, LessEqual, End}
use Rattle.hhas_lex.specs.Bytes.{is_lower, is_word_start, is_word_byte, is_digit, is_leading_digit, is_mark, is_name, number_of}
use Rattle.hhas_lex.specs.Strings.{closes, value_of}

abbrev pub when : Bool → TokenKind → Option TokenKind
when t kind = if t then Some kind else None

abbrev pub is_empty : List ℕ → Bool
is_empty [] = true
is_empty (b ∷ bs) = false

abbrev pub mark_shape : ℕ → List ℕ → Option TokenKind
mark_shape b [] = Some (Mark b)
mark_shape b (c ∷ bs) = when (b == 60 && c == 61 && is_empty bs) LessEqual

-- the token that bytes spell, whatever its size
unfoldable pub shape : List ℕ → Option TokenKind
shape [] = None
shape (b ∷ bs) =
    if is_word_start b then when (list_all is_word_byte bs) Word
    else if is_digit b then when (if b == 48 then is_empty bs else list_all is_digit bs) (Integer (pos (number_of (b ∷ bs))))
    else if is_mark b then mark_shape b bs
    else if b == 46 then when (is_name is_lower is_lower bs) Directive
    else if b == 36 then when (is_name is_word_start is_word_byte bs) Local
    else if b == 45 then when (is_name is_leading_digit is_digit bs) (Integer (neg_ℤ (pos (number_of bs))))
    else if b == 34 then when (closes bs) Str
    else None

abbrev pub is_int64 : ℤ → Bool
is_int64 (pos n) = nat_lt n (2 ^ 63)
is_int64 (negsuc n) = nat_lt n (2 ^ 63)

-- whether a spelling keeps to the limits: 100 bytes of a word, 64 bits, 1,048,576 bytes of a string's value
abbrev pub fits : TokenKind → List ℕ → Bool
fits Word bytes = nat_le (length bytes) 100
fits Local bytes = nat_le (length (drop 1 bytes)) 100
fits (Integer i) bytes = is_int64 i
fits Str bytes = nat_le (length (value_of (drop 1 bytes))) max_text
fits Directive bytes = true
fits (Mark b) bytes = true
fits LessEqual bytes = true
fits End bytes = true

-- the first n bytes spell a token, and no longer front does
pub record Longest (bytes : List ℕ) (kind : TokenKind) (n : ℕ) : Type 0 where
  pub inside : n ≤ length bytes
  pub spelled : shape (take n bytes) ≡ Some kind
  pub longest : (m : ℕ) → n < m → m ≤ length bytes → shape (take m bytes) ≡ None

-- a token stands at the front, the end where no bytes are left
abbrev pub IsTokenAt : List ℕ → TokenKind → ℕ → Type 0
IsTokenAt [] kind n = (kind ≡ End) × (n ≡ 0)
IsTokenAt (b ∷ bs) kind n = Longest (b ∷ bs) kind n × (fits kind (take n (b ∷ bs)) ≡ true)

-- no token stands at the front: no front spells one, or the longest that does is past a limit
pub record NoToken (bytes : List ℕ) : Type 0 where
  pub more : bytes ≢ []
  pub none : (kind : TokenKind) (n : ℕ) → Longest bytes kind n → fits kind (take n bytes) ≡ false

-- how long the longest front of at most n bytes is that spells a token, 0 where none does
unfoldable pub longest : ℕ → List ℕ → ℕ
longest zero bytes = 0
longest (suc n) bytes = if is_some (shape (take (suc n) bytes)) then suc n else longest n bytes

-- a token's kind and the length of its spelling
abbrev pub Scanned : Type 0
Scanned = Option (TokenKind × ℕ)

abbrev pub kept : Option TokenKind → List ℕ → ℕ → Scanned
kept None bytes n = None
kept (Some kind) bytes n = if fits kind (take n bytes) then Some (kind, n) else None

abbrev pub front_of_length : List ℕ → ℕ → Scanned
front_of_length bytes n = kept (shape (take n bytes)) bytes n

-- the token at the front
unfoldable pub scan : List ℕ → Scanned
scan [] = Some (End, 0)
scan (b ∷ bs) = front_of_length (b ∷ bs) (longest (length (b ∷ bs)) (b ∷ bs))
