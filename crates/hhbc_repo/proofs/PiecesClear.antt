-- Pieces of a canonical text are clear: the first of a line, what stands behind a space, and what stands tight behind a token that it may touch.
use Rattle.std.proofs.Common.{◌≡◌, ℕ, zero, suc, true, ◌&&◌, List, [], ◌∷◌, pos, arith, refl}
use Rattle.std.specs.List.{list_all}
use Rattle.std.proofs.lemmas.Bool.{and_from, leb-true, lt-ltb}
use Rattle.hhas_lex.specs.Bytes.{is_white}
use Rattle.hhas_lex.specs.Shape.{is_int64}
use Rattle.hhas_lex.specs.Spaced.{Spaced, keeps_apart, is_clear}
use Rattle.hhas_lex.specs.Spelling.{is_proper, is_word, touches}
use Rattle.hhas_lex.specs.Tokens.{Token}
use Rattle.hhbc_repo.specs.CanonicalText.{indent, line, spaced, tight, tagged}
use Rattle.hhbc_repo.specs.Fits.{is_index}
use Rattle.hhbc_repo.proofs.Clearing.{Clear}

pub index_proper : (n : ℕ) → is_index n ≡ true → is_int64 (pos n) ≡ true
index_proper n h = let k = leb-true n 254 h in lt-ltb n 9223372036854775808 (omega (arith, k))

indent_white : (depth : ℕ) → list_all is_white (indent depth) ≡ true
indent_white zero = refl
indent_white (suc depth) = indent_white depth

pub line_clear : (depth : ℕ) (t : Token) (ss : List Spaced) → is_proper t ≡ true → is_clear t ss ≡ true → Clear (line depth t ∷ ss)
line_clear depth t ss h k u =
    and_from (is_proper t) (keeps_apart (10 ∷ indent depth) (touches u t) && is_clear t ss) h
    (and_from (keeps_apart (10 ∷ indent depth) (touches u t)) (is_clear t ss) (indent_white depth) k)

pub spaced_clear : (t : Token) (ss : List Spaced) → is_proper t ≡ true → is_clear t ss ≡ true → Clear (spaced t ∷ ss)
spaced_clear t ss h k u = and_from (is_proper t) (is_clear t ss) h k

-- one token alone
pub token_clear : (t : Token) → is_proper t ≡ true → Clear (spaced t ∷ [])
token_clear t h = spaced_clear t [] h refl

pub tight_clear : (u t : Token) (ss : List Spaced) → touches u t ≡ true → is_proper t ≡ true → is_clear t ss ≡ true → is_clear u (tight t ∷ ss) ≡ true
tight_clear u t ss a h k = and_from (is_proper t) (touches u t && is_clear t ss) h (and_from (touches u t) (is_clear t ss) a k)

-- a word, a colon, and what stands directly behind it
pub tagged_clear : (word : List ℕ) (t : Token) → is_word word ≡ true → is_proper t ≡ true → Clear (tagged word t)
tagged_clear word t h k u = and_from (is_word word) (is_proper t && true) h (and_from (is_proper t) true k refl)
