-- Texts of tokens with white space before each.
use Rattle.std.specs.Prelude.{ℕ, Bool, true, ◌&&◌, List, [], ◌∷◌, ◌++◌}
use Rattle.std.specs.List.{list_all, flat_map}
use Rattle.hhas_lex.specs.Bytes.{is_white}
use Rattle.hhas_lex.specs.Spelling.{is_proper, spelling, touches}
use Rattle.hhas_lex.specs.Tokens.{Token}

-- a token, and the white space before it
pub record Spaced : Type 0 where
  pub space : List ℕ
  pub token : Token

abbrev pub spaced_text : Spaced → List ℕ
spaced_text s = s.space ++ spelling s.token

abbrev pub text_of : List Spaced → List ℕ
text_of ss = flat_map spaced_text ss

-- white space, or none where the tokens may touch
abbrev pub keeps_apart : List ℕ → Bool → Bool
keeps_apart [] touching = touching
keeps_apart (b ∷ bs) touching = list_all is_white (b ∷ bs)

-- proper tokens that are told apart, behind a token
abbrev pub is_clear : Token → List Spaced → Bool
is_clear t [] = true
is_clear t (s ∷ ss) = is_proper s.token && (keeps_apart s.space (touches t s.token) && is_clear s.token ss)

abbrev pub last_of : Token → List Spaced → Token
last_of t [] = t
last_of t (s ∷ ss) = last_of s.token ss
