-- The bases of member sequences.
use Rattle.std.proofs.Common.{◌≡◌, ℕ, List, [], ◌∷◌, ◌++◌, refl, sym, ap, ◌∙◌, codes, false}
use Rattle.std.specs.Str.{bytes_eq}
use Rattle.std.proofs.lemmas.Slice.Eq.{bytes_eq-Decides}
use Rattle.hhas_read.proofs.Reserved.{never_both}
use Rattle.hhas_read.proofs.Said.{same_word}
use Rattle.hhas_lex.specs.Tokens.{Token, Word, front}
use Rattle.hhbc_repo.specs.declared.parts.BaseParts.{BaseParts}
use Rattle.hhbc_repo.specs.declared.parts.BaseParts.TheVariants as bases
use Rattle.hhbc_repo.specs.CodeSyntax.{ABase, ALocal, AnIndex}
use Rattle.hhas_read.specs.Reading.{Placed, StuckAt, next, any}
use Rattle.hhas_read.proofs.Resuming.{Resumes, past_none}

heads : (t u : Token) (x y : List Token) → t ∷ x ≡ u ∷ y → t ≡ u
heads t u x y e = ap front e

-- two words that differ
differ : {A : Type 0} (a b : List ℕ) {x y : List Token} → bytes_eq a b ≡ false → Word a ∷ x ≡ Word b ∷ y → A
differ a b {x} {y} f e = absurd (never_both (sym ((bytes_eq-Decides a b).1 (same_word a b (heads (Word a) (Word b) x y e))) ∙ f))

pub local_resumes : (left : List Token) → Resumes any ABase (Word (codes "BaseL") ∷ []) ALocal bases.Local left
local_resumes left = record { on = λ ts u m. record { rest = ts; word = m; tokens = refl }; back = λ w v x y n o h e. back w v x y n e }
  where
    back : (w : List Token) (v : BaseParts) (x y : List Token) → ABase w v → w ++ x ≡ Word (codes "BaseL") ∷ y
        → (ts : List Token) × (u : List ℕ) × ALocal ts u × (w ≡ Word (codes "BaseL") ∷ ts) × (v ≡ bases.Local u)
    back w (bases.Local u) x y n e = (n.rest, u, n.word, n.tokens, refl)
    back w (bases.Stack i) x y n e = differ (codes "BaseL") (codes "BaseC") refl (sym e ∙ ap (λ l. l ++ x) n.tokens)
    back w bases.This x y n e = differ (codes "BaseL") (codes "BaseH") refl (sym e ∙ ap (λ l. l ++ x) n)

pub stack_resumes : (left : List Token) → Resumes any ABase (Word (codes "BaseC") ∷ []) AnIndex bases.Stack left
stack_resumes left = record { on = λ ts u m. record { rest = ts; word = m; tokens = refl }; back = λ w v x y n o h e. back w v x y n e }
  where
    back : (w : List Token) (v : BaseParts) (x y : List Token) → ABase w v → w ++ x ≡ Word (codes "BaseC") ∷ y
        → (ts : List Token) × (u : ℕ) × AnIndex ts u × (w ≡ Word (codes "BaseC") ∷ ts) × (v ≡ bases.Stack u)
    back w (bases.Local u) x y n e = differ (codes "BaseC") (codes "BaseL") refl (sym e ∙ ap (λ l. l ++ x) n.tokens)
    back w (bases.Stack i) x y n e = (n.rest, i, n.word, n.tokens, refl)
    back w bases.This x y n e = differ (codes "BaseC") (codes "BaseH") refl (sym e ∙ ap (λ l. l ++ x) n)

pub base_stuck : (p : Placed) → (next p ≡ Word (codes "BaseL") → ⊥) → (next p ≡ Word (codes "BaseC") → ⊥) → (next p ≡ Word (codes "BaseH") → ⊥) → StuckAt any ABase p p
base_stuck p no_local no_stack no_this = record {
  read = [];
  past = past_none p;
  viable = record { more = Word (codes "BaseH") ∷ []; value = bases.This; word = refl; proper = refl };
  dead = λ w v x y n o e. dead w v x y n e;
}
  where
    dead : (w : List Token) (v : BaseParts) (x y : List Token) → ABase w v → w ++ x ≡ next p ∷ y → ⊥
    dead w (bases.Local u) x y n e = no_local (sym (cc (e, ap (λ l. l ++ x) n.tokens)))
    dead w (bases.Stack i) x y n e = no_stack (sym (cc (e, ap (λ l. l ++ x) n.tokens)))
    dead w bases.This x y n e = no_this (sym (cc (e, ap (λ l. l ++ x) n)))
