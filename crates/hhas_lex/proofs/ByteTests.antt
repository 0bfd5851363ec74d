-- Tests of bytes.
use Rattle.std.proofs.Common.{◌≡◌, ℕ, ◌<◌, ◌≤◌, refl, sym, subst, Bool, true, false, ◌||◌, ◌&&◌, ◌==◌, ◌⊎◌, inl, inr, arith}
use Rattle.std.proofs.lemmas.Bool.Decides.{Decides-eqb, nat_tests}
use Rattle.hhas_lex.specs.Bytes.{is_white, is_word_start, is_digit, is_leading_digit, is_mark}

pub both : (a b : Bool) → a && b ≡ true → (a ≡ true) × (b ≡ true)
both true b e = (refl, e)
both false b e = absurd (cc)

pub either : (a b : Bool) → a || b ≡ true → (a ≡ true) ⊎ (b ≡ true)
either true b e = inl refl
either false b e = inr e

pub neither : (a b : Bool) → a || b ≡ false → (a ≡ false) × (b ≡ false)
neither true b e = absurd (cc)
neither false b e = (refl, e)

-- what holds of the byte of a test holds of what passes it
pub at_byte : (P : ℕ → Type 0) (b c : ℕ) → P c → (b == c) ≡ true → P b
at_byte P b c p e = subst P (sym ((Decides-eqb b c).0 e)) p

or_byte : (P : ℕ → Type 0) (b c : ℕ) (a : Bool) → (a ≡ true → P b) → P c → a || b == c ≡ true → P b
or_byte P b c a f p e = elim (either a (b == c) e) [ inl h ↦ f h | inr h ↦ at_byte P b c p h ]

pub white_byte : (P : ℕ → Type 0) → P 32 → P 9 → P 10 → P 13 → (b : ℕ) → is_white b ≡ true → P b
white_byte P p1 p2 p3 p4 b = or_byte P b 13 _ (or_byte P b 10 _ (or_byte P b 9 _ (at_byte P b 32 p1) p2) p3) p4

pub mark_byte : (P : ℕ → Type 0) → P 123 → P 125 → P 40 → P 41 → P 60 → P 62 → P 44 → P 59 → P 58 → P 61 → P 124 → (b : ℕ) → is_mark b ≡ true → P b
mark_byte P p1 p2 p3 p4 p5 p6 p7 p8 p9 p10 p11 b =
    or_byte P b 124 _ (or_byte P b 61 _ (or_byte P b 58 _ (or_byte P b 59 _ (or_byte P b 44 _ (or_byte P b 62 _ (or_byte P b 60 _ (or_byte P b 41 _ (or_byte P b 40 _
    (or_byte P b 125 _ (at_byte P b 123 p1) p2) p3) p4) p5) p6) p7) p8) p9) p10) p11

pub mark_no_word : (b : ℕ) → is_mark b ≡ true → is_word_start b ≡ false
mark_no_word = mark_byte (λ b. is_word_start b ≡ false) refl refl refl refl refl refl refl refl refl refl refl

pub mark_no_digit : (b : ℕ) → is_mark b ≡ true → is_digit b ≡ false
mark_no_digit = mark_byte (λ b. is_digit b ≡ false) refl refl refl refl refl refl refl refl refl refl refl

pub digit_no_word : (b : ℕ) → 48 ≤ b → b ≤ 57 → is_word_start b ≡ false
digit_no_word b low high = grind (arith, nat_tests)

pub digit_tests : (b : ℕ) → 48 < b → b ≤ 57 → (is_digit b ≡ true) × (is_leading_digit b ≡ true) × ((b == 48) ≡ false)
digit_tests b low high = (grind (arith, nat_tests), grind (arith, nat_tests), grind (arith, nat_tests))
