-- What was scanned is the longest token at the front, and nothing was where there is none.
use Rattle.std.proofs.Common.{◌≡◌, ℕ, zero, suc, ◌<◌, ◌≤◌, refl, sym, ap, subst, ◌∙◌, Bool, true, false, if◌then◌else◌, List, [], ◌∷◌, length, take, Option, None, Some, arith, inl, inr}
use Rattle.std.proofs.lemmas.Bool.{cases_eq}
use Rattle.hhas_lex.specs.declared.token.TokenKind.{TokenKind}
use Rattle.hhas_lex.specs.declared.token.TokenKind.TheVariants as kinds
use Rattle.hhas_lex.specs.Shape.{shape, longest, scan, Scanned, kept, front_of_length, fits, IsTokenAt, NoToken}
use Rattle.hhas_lex.proofs.Searching.{longest-at, longest-here, longest-on, longest-zero}

record Last (top : ℕ) (bytes : List ℕ) : Type 0 where
  pub within : longest top bytes ≤ top
  pub none : (m : ℕ) → longest top bytes < m → m ≤ top → shape (take m bytes) ≡ None

last-on : (t : ℕ) (bytes : List ℕ) (o : Option TokenKind) → shape (take (suc t) bytes) ≡ o → Last t bytes → Last (suc t) bytes
last-on t bytes (Some k) e w = record { within = omega (arith, longest-here t bytes k e); none = λ m lt le. absurd (omega (arith, longest-here t bytes k e)) }
last-on t bytes None e w =
    let l = longest-on t bytes e in
    record {
      within = omega (arith, l, w.within);
      none = λ m lt le. elim (cases_eq m (suc t)) [
        | inl p ↦ ap (λ z. shape (take z bytes)) p ∙ e
        | inr p ↦ w.none m (omega arith) (omega arith)
      ];
    }

last : (top : ℕ) (bytes : List ℕ) → Last top bytes
last zero bytes = record { within = omega (arith, longest-zero bytes); none = λ m lt le. absurd (omega arith) }
last (suc t) bytes = last-on t bytes (shape (take (suc t) bytes)) refl (last t bytes)

record Kept (bytes : List ℕ) (m : ℕ) (k : TokenKind) (n : ℕ) : Type 0 where
  pub length_is : m ≡ n
  pub shape_is : shape (take m bytes) ≡ Some k
  pub fits_is : fits k (take m bytes) ≡ true

kind_in : TokenKind → Scanned → TokenKind
kind_in d None = d
kind_in d (Some (k, n)) = k

count_in : ℕ → Scanned → ℕ
count_in d None = d
count_in d (Some (k, n)) = n

same-kind : (j k : TokenKind) (m n : ℕ) → ◌≡◌ {A = Scanned} (Some (j, m)) (Some (k, n)) → j ≡ k
unfolding kind_in
same-kind j k m n e = ap (kind_in j) e

same-count : (j k : TokenKind) (m n : ℕ) → ◌≡◌ {A = Scanned} (Some (j, m)) (Some (k, n)) → m ≡ n
unfolding count_in
same-count j k m n e = ap (count_in m) e

if-kept : (t : Bool) (j k : TokenKind) (m n : ℕ) → ◌≡◌ {A = Scanned} (if t then Some (j, m) else None) (Some (k, n)) → (t ≡ true) × (j ≡ k) × (m ≡ n)
if-kept true j k m n e = (refl, same-kind j k m n e, same-count j k m n e)
if-kept false j k m n e = absurd (cc)

kept-some : (o : Option TokenKind) (bytes : List ℕ) (m : ℕ) (k : TokenKind) (n : ℕ) → shape (take m bytes) ≡ o → kept o bytes m ≡ Some (k, n) → Kept bytes m k n
kept-some None bytes m k n s e = absurd (cc)
kept-some (Some j) bytes m k n s e =
    let w = if-kept (fits j (take m bytes)) j k m n e in
    record {
      length_is = w.2;
      shape_is = s ∙ ap (λ (z : TokenKind). Some z) w.1;
      fits_is = ap (λ (z : TokenKind). fits z (take m bytes)) (sym w.1) ∙ w.0;
    }

pub scan-some : (bytes : List ℕ) (k : TokenKind) (n : ℕ) → scan bytes ≡ Some (k, n) → IsTokenAt bytes k n
unfolding scan
scan-some [] k n e = (sym (same-kind kinds.End k 0 n e), sym (same-count kinds.End k 0 n e))
scan-some (b ∷ bs) k n e =
    let bytes = b ∷ bs in
    let m = longest (length bytes) bytes in
    let w = kept-some (shape (take m bytes)) bytes m k n refl e in
    let l = last (length bytes) bytes in (
      record {
        inside = omega (arith, w.length_is, l.within);
        spelled = subst (λ (z : ℕ). shape (take z bytes) ≡ Some k) w.length_is w.shape_is;
        longest = λ j lt le. l.none j (omega (arith, w.length_is)) le;
      },
      subst (λ (z : ℕ). fits k (take z bytes) ≡ true) w.length_is w.fits_is,
    )

if-none : (t : Bool) (k : TokenKind) (n : ℕ) → ◌≡◌ {A = Scanned} (if t then Some (k, n) else None) None → t ≡ false
if-none true k n e = absurd (cc)
if-none false k n e = refl

pub scan-nothing : (bytes : List ℕ) → scan bytes ≡ None → NoToken bytes
unfolding scan
scan-nothing [] e = absurd (cc)
scan-nothing (b ∷ bs) e = record {
  more = λ h. absurd (cc);
  none = λ k n w.
      let bytes = b ∷ bs in
      let l : longest (length bytes) bytes ≡ n = longest-at (length bytes) n bytes k w.inside w.spelled w.longest in
      if-none (fits k (take n bytes)) k n (ap (λ (o : Option TokenKind). kept o bytes n) (sym w.spelled) ∙ ap (front_of_length bytes) (sym l) ∙ e);
}
