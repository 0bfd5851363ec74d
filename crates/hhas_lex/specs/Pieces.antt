-- Strings by their pieces.
use Rattle.std.specs.Prelude.{◌≡◌, ℕ, ◌+◌, ◌*◌, Bool, true, not, ◌||◌, ◌&&◌, ◌==◌, List, [], ◌∷◌, ◌++◌, map, is_some, unwrap_or}
use Rattle.std.specs.List.{list_all, flat_map}
use Rattle.hhas_lex.specs.Bytes.{is_plain, hex_value}

pub data Piece : Type 0 where
  -- a byte as it is
  AsIs : ℕ → Piece
  Quote : Piece
  Backslash : Piece
  Newline : Piece
  -- a byte by two hexadecimal digits
  Hex : ℕ → ℕ → Piece

abbrev pub is_piece : Piece → Bool
is_piece (AsIs b) = is_plain b && not (b == 34 || b == 92)
is_piece Quote = true
is_piece Backslash = true
is_piece Newline = true
is_piece (Hex high low) = is_some (hex_value high) && is_some (hex_value low)

abbrev pub piece_spelling : Piece → List ℕ
piece_spelling (AsIs b) = b ∷ []
piece_spelling Quote = 92 ∷ 34 ∷ []
piece_spelling Backslash = 92 ∷ 92 ∷ []
piece_spelling Newline = 92 ∷ 110 ∷ []
piece_spelling (Hex high low) = 92 ∷ 120 ∷ high ∷ low ∷ []

abbrev pub piece_value : Piece → ℕ
piece_value (AsIs b) = b
piece_value Quote = 34
piece_value Backslash = 92
piece_value Newline = 10
piece_value (Hex high low) = 16 * unwrap_or (hex_value high) 0 + unwrap_or (hex_value low) 0

-- a quote, pieces and a quote, and what the pieces stand for
pub record IsString (bytes value : List ℕ) : Type 0 where
  pub pieces : List Piece
  pub proper : list_all is_piece pieces ≡ true
  pub spelled : bytes ≡ 34 ∷ (flat_map piece_spelling pieces ++ 34 ∷ [])
  pub value_is : value ≡ map piece_value pieces
