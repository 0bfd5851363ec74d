-- What the next token isn't, where the piece isn't of a kind.
use Rattle.std.proofs.Common.{◌≡◌, ℕ, ℤ, List, refl, Bor}
use Rattle.hhas_lex.specs.Tokens as tokens
use Rattle.hhas_lex.specs.Tokens.{Token}
use Rattle.hhas_read.specs.declared.reader.Piece.{Piece}
use Rattle.hhas_read.specs.declared.reader.Piece.TheVariants as pieces
use Rattle.hhas_read.specs.Pieces.{Says}

pub not_word : (p : Piece) (t : Token) → Says p t → ((b : Bor (List ℕ)) → p ≡ pieces.Word b → ⊥) → (w : List ℕ) → t ≡ tokens.Word w → ⊥
not_word (pieces.Directive b) t s n w e = absurd (cc (s, e))
not_word (pieces.Word b) t s n w e = n b refl
not_word (pieces.Local b) t s n w e = absurd (cc (s, e))
not_word (pieces.Integer b) t s n w e = absurd (cc (s, e))
not_word pieces.Str t s n w e = absurd (cc (s.1, e))
not_word (pieces.Mark b) t s n w e = absurd (cc (s, e))
not_word pieces.LessEqual t s n w e = absurd (cc (s, e))
not_word pieces.End t s n w e = absurd (cc (s, e))
not_word pieces.Bad t s n w e = absurd (cc (s, e))

pub not_local : (p : Piece) (t : Token) → Says p t → ((b : Bor (List ℕ)) → p ≡ pieces.Local b → ⊥) → (w : List ℕ) → t ≡ tokens.Local w → ⊥
not_local (pieces.Directive b) t s n w e = absurd (cc (s, e))
not_local (pieces.Word b) t s n w e = absurd (cc (s, e))
not_local (pieces.Local b) t s n w e = n b refl
not_local (pieces.Integer b) t s n w e = absurd (cc (s, e))
not_local pieces.Str t s n w e = absurd (cc (s.1, e))
not_local (pieces.Mark b) t s n w e = absurd (cc (s, e))
not_local pieces.LessEqual t s n w e = absurd (cc (s, e))
not_local pieces.End t s n w e = absurd (cc (s, e))
not_local pieces.Bad t s n w e = absurd (cc (s, e))

pub not_integer : (p : Piece) (t : Token) → Says p t → ((b : ℤ) → p ≡ pieces.Integer b → ⊥) → (w : ℤ) → t ≡ tokens.Integer w → ⊥
not_integer (pieces.Directive b) t s n w e = absurd (cc (s, e))
not_integer (pieces.Word b) t s n w e = absurd (cc (s, e))
not_integer (pieces.Local b) t s n w e = absurd (cc (s, e))
not_integer (pieces.Integer b) t s n w e = n b refl
not_integer pieces.Str t s n w e = absurd (cc (s.1, e))
not_integer (pieces.Mark b) t s n w e = absurd (cc (s, e))
not_integer pieces.LessEqual t s n w e = absurd (cc (s, e))
not_integer pieces.End t s n w e = absurd (cc (s, e))
not_integer pieces.Bad t s n w e = absurd (cc (s, e))

pub not_mark : (p : Piece) (t : Token) → Says p t → ((b : ℕ) → p ≡ pieces.Mark b → ⊥) → (w : ℕ) → t ≡ tokens.Mark w → ⊥
not_mark (pieces.Directive b) t s n w e = absurd (cc (s, e))
not_mark (pieces.Word b) t s n w e = absurd (cc (s, e))
not_mark (pieces.Local b) t s n w e = absurd (cc (s, e))
not_mark (pieces.Integer b) t s n w e = absurd (cc (s, e))
not_mark pieces.Str t s n w e = absurd (cc (s.1, e))
not_mark (pieces.Mark b) t s n w e = n b refl
not_mark pieces.LessEqual t s n w e = absurd (cc (s, e))
not_mark pieces.End t s n w e = absurd (cc (s, e))
not_mark pieces.Bad t s n w e = absurd (cc (s, e))

pub not_directive : (p : Piece) (t : Token) → Says p t → ((b : Bor (List ℕ)) → p ≡ pieces.Directive b → ⊥) → (w : List ℕ) → t ≡ tokens.Directive w → ⊥
not_directive (pieces.Directive b) t s n w e = n b refl
not_directive (pieces.Word b) t s n w e = absurd (cc (s, e))
not_directive (pieces.Local b) t s n w e = absurd (cc (s, e))
not_directive (pieces.Integer b) t s n w e = absurd (cc (s, e))
not_directive pieces.Str t s n w e = absurd (cc (s.1, e))
not_directive (pieces.Mark b) t s n w e = absurd (cc (s, e))
not_directive pieces.LessEqual t s n w e = absurd (cc (s, e))
not_directive pieces.End t s n w e = absurd (cc (s, e))
not_directive pieces.Bad t s n w e = absurd (cc (s, e))

pub not_less_equal : (p : Piece) (t : Token) → Says p t → (p ≡ pieces.LessEqual → ⊥) → t ≡ tokens.LessEqual → ⊥
not_less_equal (pieces.Directive b) t s n e = absurd (cc (s, e))
not_less_equal (pieces.Word b) t s n e = absurd (cc (s, e))
not_less_equal (pieces.Local b) t s n e = absurd (cc (s, e))
not_less_equal (pieces.Integer b) t s n e = absurd (cc (s, e))
not_less_equal pieces.Str t s n e = absurd (cc (s.1, e))
not_less_equal (pieces.Mark b) t s n e = absurd (cc (s, e))
not_less_equal pieces.LessEqual t s n e = n refl
not_less_equal pieces.End t s n e = absurd (cc (s, e))
not_less_equal pieces.Bad t s n e = absurd (cc (s, e))

-- ---- a token has one value

pub same_integer : (i j : ℤ) → tokens.Integer i ≡ tokens.Integer j → i ≡ j
same_integer i j e = cc e

pub same_word : (i j : List ℕ) → tokens.Word i ≡ tokens.Word j → i ≡ j
same_word i j e = cc e

pub same_local : (i j : List ℕ) → tokens.Local i ≡ tokens.Local j → i ≡ j
same_local i j e = cc e

pub same_mark : (i j : ℕ) → tokens.Mark i ≡ tokens.Mark j → i ≡ j
same_mark i j e = cc e

pub same_directive : (i j : List ℕ) → tokens.Directive i ≡ tokens.Directive j → i ≡ j
same_directive i j e = cc e

pub same_string : (i j : List ℕ) → tokens.Str i ≡ tokens.Str j → i ≡ j
same_string i j e = cc e
