-- What the next token says.
use Rattle.std.specs.Prelude.{◌≡◌, ℕ, List}
use Rattle.std.specs.Prelude.{Option, Some, None}
use Rattle.hhas_lex.specs.Tokens as tokens
use Rattle.hhas_lex.specs.Tokens.{Token, meaning}
use Rattle.hhas_lex.specs.declared.token.Token as spans
use Rattle.hhas_read.specs.declared.reader.Piece.{Piece}
use Rattle.hhas_read.specs.declared.reader.Piece.TheVariants.{Directive, Word, Local, Integer, Str, Mark, LessEqual, End, Bad}

-- a piece says what the token is, but for the value of a string
abbrev pub Says : Piece → Token → Type 0
Says (Directive w) t = t ≡ tokens.Directive w.now
Says (Word w) t = t ≡ tokens.Word w.now
Says (Local w) t = t ≡ tokens.Local w.now
Says (Integer i) t = t ≡ tokens.Integer i
Says Str t = (s : List ℕ) × (t ≡ tokens.Str s)
Says (Mark b) t = t ≡ tokens.Mark b
Says LessEqual t = t ≡ tokens.LessEqual
Says End t = t ≡ tokens.End
Says Bad t = t ≡ tokens.Bad

-- a token that others follow
abbrev pub IsInner : Token → Type 0
IsInner (tokens.Directive w) = Unit {0}
IsInner (tokens.Word w) = Unit {0}
IsInner (tokens.Local w) = Unit {0}
IsInner (tokens.Integer i) = Unit {0}
IsInner (tokens.Str s) = Unit {0}
IsInner (tokens.Mark b) = Unit {0}
IsInner tokens.LessEqual = Unit {0}
IsInner tokens.End = ⊥
IsInner tokens.Bad = ⊥

-- the token that was found, or that none begins
abbrev pub told : List ℕ → Option spans.Token → Token
told text None = tokens.Bad
told text (Some t) = meaning text t

-- the value of a string, or the token is none
abbrev pub IsValue : Option (List ℕ) → Token → Type 0
IsValue (Some v) t = t ≡ tokens.Str v
IsValue None t = (s : List ℕ) → t ≡ tokens.Str s → ⊥
