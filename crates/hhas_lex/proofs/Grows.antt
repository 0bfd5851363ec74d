-- Each token but the end takes at least a byte.
use Rattle.std.proofs.Common.{◌≡◌, ℕ, zero, suc, ◌<◌, ◌==◌, ◌&&◌, refl, Bool, true, false, if◌then◌else◌, List, [], ◌∷◌, length, take, Option, Some, None, pos, neg_ℤ, arith}
use Rattle.std.specs.List.{list_all}
use Rattle.hhas_lex.specs.declared.token.TokenKind.{TokenKind}
use Rattle.hhas_lex.specs.declared.token.TokenKind.TheVariants as kinds
use Rattle.hhas_lex.specs.Bytes.{is_lower, is_word_start, is_word_byte, is_digit, is_leading_digit, is_mark, is_name, number_of}
use Rattle.hhas_lex.specs.Strings.{closes}
use Rattle.hhas_lex.specs.Shape.{shape, when, is_empty, mark_shape, longest, scan, Scanned, kept, front_of_length, fits}
use Rattle.hhas_lex.proofs.Fronts.{split}
use Rattle.hhas_lex.proofs.Searching.{shape-nil}

abbrev pub is_end : TokenKind → Bool
is_end kinds.End = true
is_end kinds.Directive = false
is_end kinds.Word = false
is_end kinds.Local = false
is_end (kinds.Integer i) = false
is_end kinds.Str = false
is_end (kinds.Mark b) = false
is_end kinds.LessEqual = false

-- a kind that isn't the end
abbrev Inner : Option TokenKind → Type 0
Inner None = Unit {0}
Inner (Some kind) = is_end kind ≡ false

when-inner : (t : Bool) (kind : TokenKind) → is_end kind ≡ false → Inner (when t kind)
when-inner true kind e = e
when-inner false kind e = tt

mark-inner : (b : ℕ) (bs : List ℕ) → Inner (mark_shape b bs)
mark-inner b [] = refl
mark-inner b (c ∷ bs) = when-inner (b == 60 && c == 61 && is_empty bs) kinds.LessEqual refl

shape-inner : (bytes : List ℕ) → Inner (shape bytes)
unfolding shape
shape-inner [] = tt
shape-inner (b ∷ bs) =
    split (is_word_start b) (λ e. rw e (when-inner (list_all is_word_byte bs) kinds.Word refl))
    (λ e1. split (is_digit b) (λ e. rw (e1, e) (when-inner (if b == 48 then is_empty bs else list_all is_digit bs) (kinds.Integer (pos (number_of (b ∷ bs)))) refl))
    (λ e2. split (is_mark b) (λ e. rw (e1, e2, e) (mark-inner b bs))
    (λ e3. split (b == 46) (λ e. rw (e1, e2, e3, e) (when-inner (is_name is_lower is_lower bs) kinds.Directive refl))
    (λ e4. split (b == 36) (λ e. rw (e1, e2, e3, e4, e) (when-inner (is_name is_word_start is_word_byte bs) kinds.Local refl))
    (λ e5. split (b == 45) (λ e. rw (e1, e2, e3, e4, e5, e) (when-inner (is_name is_leading_digit is_digit bs) (kinds.Integer (neg_ℤ (pos (number_of bs)))) refl))
    (λ e6. split (b == 34) (λ e. rw (e1, e2, e3, e4, e5, e6, e) (when-inner (closes bs) kinds.Str refl))
    (λ e7. rw (e1, e2, e3, e4, e5, e6, e7) tt)))))))

-- a token that isn't the end, of at least a byte
abbrev pub Grown : Scanned → Type 0
Grown None = Unit {0}
Grown (Some (k, n)) = (0 < n) × (is_end k ≡ false)

pub record Grows (s : Scanned) : Type 0 where
  pub grown : Grown s

if-grows : (t : Bool) (k : TokenKind) (n : ℕ) → 0 < n → is_end k ≡ false → Grows (if t then Some (k, n) else None)
if-grows true k n h e = record { grown = (h, e) }
if-grows false k n h e = record { grown = tt }

kept-grows : (o : Option TokenKind) (bytes : List ℕ) (n : ℕ) → 0 < n → Inner o → Grows (kept o bytes n)
kept-grows None bytes n h i = record { grown = tt }
kept-grows (Some k) bytes n h i = if-grows (fits k (take n bytes)) k n h i

front-grows : (bytes : List ℕ) (n : ℕ) → Grows (front_of_length bytes n)
front-grows bytes zero = rw shape-nil (record { grown = tt })
front-grows bytes (suc n) = kept-grows (shape (take (suc n) bytes)) bytes (suc n) (omega arith) (shape-inner (take (suc n) bytes))

pub scan-grows : (b : ℕ) (bs : List ℕ) → Grows (scan (b ∷ bs))
unfolding scan
scan-grows b bs = front-grows (b ∷ bs) (longest (length (b ∷ bs)) (b ∷ bs))

pub scan-end : scan [] ≡ Some (kinds.End, 0)
unfolding scan
scan-end = refl
