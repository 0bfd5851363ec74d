-- The tokens of a text.
use Rattle.std.specs.Prelude.{ℕ, zero, suc, ◌+◌, ℤ, Bool, true, false, not, List, [], ◌∷◌, length, take, drop, Some, None, ◌-◌, ◌==◌, if◌then◌else◌}
use Rattle.hhas_lex.specs.declared.token.TokenKind.{TokenKind}
use Rattle.hhas_lex.specs.declared.token.TokenKind.TheVariants as kinds
use Rattle.hhas_lex.specs.declared.token.Token as spans
use Rattle.hhas_lex.specs.Bytes.{is_white}
use Rattle.hhas_lex.specs.Shape.{scan, Scanned}
use Rattle.hhas_lex.specs.Strings.{value_of}

pub data Token : Type 0 where
  -- the letters behind the dot
  Directive : List ℕ → Token
  Word : List ℕ → Token
  -- the word behind the dollar
  Local : List ℕ → Token
  Integer : ℤ → Token
  -- its value
  Str : List ℕ → Token
  -- its byte
  Mark : ℕ → Token
  LessEqual : Token
  -- the end of the text
  End : Token
  -- a place where no token begins
  Bad : Token

-- a text, and a place in it
pub record Cursor : Type 0 where
  pub text : List ℕ
  pub at : ℕ

-- the token of a kind whose spelling is given
abbrev pub token_of : TokenKind → List ℕ → Token
token_of kinds.Directive bytes = Directive (drop 1 bytes)
token_of kinds.Word bytes = Word bytes
token_of kinds.Local bytes = Local (drop 1 bytes)
token_of (kinds.Integer i) bytes = Integer i
token_of kinds.Str bytes = Str (value_of (drop 1 bytes))
token_of (kinds.Mark b) bytes = Mark b
token_of kinds.LessEqual bytes = LessEqual
token_of kinds.End bytes = End

-- what a token of a text stands for
abbrev pub meaning : List ℕ → spans.Token → Token
meaning text t = token_of t.kind (take (t.end - t.start) (drop t.start text))

-- how many bytes of white space and comments stand at the front, perhaps within a comment
abbrev pub gap_within : Bool → List ℕ → ℕ
gap_within comment [] = 0
gap_within true (b ∷ bs) = suc (gap_within (not (b == 10)) bs)
gap_within false (b ∷ bs) = if is_white b then suc (gap_within false bs) else (if b == 35 then suc (gap_within true bs) else 0)

abbrev pub gap : List ℕ → ℕ
gap bytes = gap_within false bytes

-- the token that was scanned, and the length of its spelling
abbrev pub token_in : Scanned → List ℕ → Token
token_in None bytes = Bad
token_in (Some (k, n)) bytes = token_of k (take n bytes)

abbrev pub length_in : Scanned → ℕ
length_in None = 0
length_in (Some (k, n)) = n

-- the first token of bytes, and the place behind it
abbrev pub first : List ℕ → Token
first bytes = token_in (scan (drop (gap bytes) bytes)) (drop (gap bytes) bytes)

abbrev pub past_first : List ℕ → ℕ
past_first bytes = gap bytes + length_in (scan (drop (gap bytes) bytes))

-- nothing follows the end, or a place where no token begins
abbrev pub followed : {A : Type 0} → Token → A → List A → List A
followed End x xs = x ∷ []
followed Bad x xs = x ∷ []
followed t x xs = x ∷ xs

-- the tokens of bytes that are fewer than the number
abbrev pub tokens_within : ℕ → List ℕ → List Token
tokens_within zero bytes = []
tokens_within (suc n) bytes = followed (first bytes) (first bytes) (tokens_within n (drop (past_first bytes) bytes))

-- all tokens of a text; the last is End or Bad, and no other is
unfoldable pub tokens : List ℕ → List Token
tokens bytes = tokens_within (suc (length bytes)) bytes

-- the places where they begin, in a text of which the bytes follow a place
abbrev pub places_within : ℕ → ℕ → List ℕ → List ℕ
places_within zero at bytes = []
places_within (suc n) at bytes =
    followed (first bytes) (at + gap bytes) (places_within n (at + past_first bytes) (drop (past_first bytes) bytes))

unfoldable pub places : ℕ → List ℕ → List ℕ
places at bytes = places_within (suc (length bytes)) at bytes

abbrev pub front : List Token → Token
front [] = Bad
front (t ∷ ts) = t

-- the place of the first of them
abbrev pub front_place : List ℕ → ℕ
front_place [] = 0
front_place (p ∷ ps) = p

-- behind a last token the same stands again
abbrev pub behind : {A : Type 0} → List A → List A
behind [] = []
behind (t ∷ []) = t ∷ []
behind (t ∷ u ∷ ts) = u ∷ ts

-- the tokens from a place on
abbrev pub left : Cursor → List Token
left c = tokens (drop c.at c.text)

-- the places where they begin
abbrev pub left_places : Cursor → List ℕ
left_places c = places c.at (drop c.at c.text)
