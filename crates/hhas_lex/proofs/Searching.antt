-- The longest front is found.
use Rattle.std.proofs.Common.{◌≡◌, ℕ, zero, suc, ◌<◌, ◌≤◌, refl, sym, ap, subst, ◌∙◌, Bool, cond, if◌then◌else◌, List, [], ◌∷◌, length, take, Option, None, Some, arith, inl, inr}
use Rattle.std.specs.Option.{is_some}
use Rattle.std.proofs.lemmas.Bool.{cases_eq}
use Rattle.hhas_lex.specs.declared.token.TokenKind.{TokenKind}
use Rattle.hhas_lex.specs.Fronts.{LongestFront, NoFront}
use Rattle.hhas_lex.specs.Shape.{shape, when, longest, scan, kept, front_of_length, fits}

pub longest-here : (t : ℕ) (bytes : List ℕ) (kind : TokenKind) → shape (take (suc t) bytes) ≡ Some kind → longest (suc t) bytes ≡ suc t
unfolding longest
longest-here t bytes kind e = ap (λ (o : Option TokenKind). cond (is_some o) (suc t) (longest t bytes)) e

pub longest-on : (t : ℕ) (bytes : List ℕ) → shape (take (suc t) bytes) ≡ None → longest (suc t) bytes ≡ longest t bytes
unfolding longest
longest-on t bytes e = ap (λ (o : Option TokenKind). cond (is_some o) (suc t) (longest t bytes)) e

pub longest-zero : (bytes : List ℕ) → longest 0 bytes ≡ 0
unfolding longest
longest-zero bytes = refl

pub longest-at : (top n : ℕ) (bytes : List ℕ) (kind : TokenKind) → n ≤ top → shape (take n bytes) ≡ Some kind → ((m : ℕ) → n < m → m ≤ top → shape (take m bytes) ≡ None) → longest top bytes ≡ n
longest-at zero n bytes kind h e f = longest-zero bytes ∙ omega arith
longest-at (suc t) n bytes kind h e f =
    elim (cases_eq n (suc t)) [
      | inl p ↦ longest-here t bytes kind (subst (λ (m : ℕ). shape (take m bytes) ≡ Some kind) p e) ∙ sym p
      | inr p ↦ longest-on t bytes (f (suc t) (omega arith) (omega arith)) ∙ longest-at t n bytes kind (omega arith) e (λ m lt le. f m lt (omega arith))
    ]

pub longest-none : (top : ℕ) (bytes : List ℕ) → ((m : ℕ) → m ≤ top → shape (take m bytes) ≡ None) → longest top bytes ≡ 0
longest-none zero bytes f = longest-zero bytes
longest-none (suc t) bytes f = longest-on t bytes (f (suc t) (omega arith)) ∙ longest-none t bytes (λ m le. f m (omega arith))

pub shape-nil : shape [] ≡ None
unfolding shape
shape-nil = refl

-- the token at the front, where its first byte leaves a test of the bytes behind
pub scan-front : (b : ℕ) (bs : List ℕ) (test : List ℕ → Bool) (kind : List ℕ → TokenKind) (n : ℕ)
    → ((xs : List ℕ) → shape (b ∷ xs) ≡ when (test xs) (kind xs)) → LongestFront test bs n
    → scan (b ∷ bs) ≡ (if fits (kind (take n bs)) (b ∷ take n bs) then Some (kind (take n bs), suc n) else None)
unfolding scan
scan-front b bs test kind n s w =
    let here : shape (b ∷ take n bs) ≡ Some (kind (take n bs)) = s (take n bs) ∙ ap (λ t. when t (kind (take n bs))) w.passes in
    let l : longest (length (b ∷ bs)) (b ∷ bs) ≡ suc n = longest-at (suc (length bs)) (suc n) (b ∷ bs) (kind (take n bs)) (omega (arith, w.inside)) here longer in
    ap (front_of_length (b ∷ bs)) l ∙ ap (λ (o : Option TokenKind). kept o (b ∷ bs) (suc n)) here
  where
    longer : (m : ℕ) → suc n < m → m ≤ suc (length bs) → shape (take m (b ∷ bs)) ≡ None
    longer zero lt le = absurd (omega arith)
    longer (suc m) lt le = s (take m bs) ∙ ap (λ t. when t (kind (take m bs))) (w.longest m (omega arith) (omega arith))

pub scan-none : (b : ℕ) (bs : List ℕ) (test : List ℕ → Bool) (kind : List ℕ → TokenKind)
    → ((xs : List ℕ) → shape (b ∷ xs) ≡ when (test xs) (kind xs)) → NoFront test bs → scan (b ∷ bs) ≡ None
unfolding scan
scan-none b bs test kind s w =
    let l : longest (length (b ∷ bs)) (b ∷ bs) ≡ 0 = longest-none (suc (length bs)) (b ∷ bs) none in
    ap (front_of_length (b ∷ bs)) l ∙ ap (λ (o : Option TokenKind). kept o (b ∷ bs) 0) shape-nil
  where
    none : (m : ℕ) → m ≤ suc (length bs) → shape (take m (b ∷ bs)) ≡ None
    none zero le = shape-nil
    none (suc m) le = s (take m bs) ∙ ap (λ t. when t (kind (take m bs))) (w.none m (omega arith))
