-- Values of constants and properties.
use Rattle.std.proofs.Common.{◌≡◌, true, false, ℕ, ℤ, List, [], ◌∷◌, ◌++◌, refl, sym, ap, ◌∙◌, codes}
use Rattle.hhas_lex.specs.Tokens.{Token, Word, Integer, front}
use Rattle.hack_values.specs.declared.cell.Cell.{Cell}
use Rattle.hack_values.specs.declared.cell.Cell.TheVariants as cells
use Rattle.hhbc_repo.specs.CodeSyntax.{AString}
use Rattle.hhbc_repo.specs.TextSyntax.{AScalar, AnInitial}
use Rattle.hhas_read.specs.Reading.{any}
use Rattle.hhas_read.proofs.Resuming.{Resumes}

-- what stands in front of a word of one token, of what it begins
first_of : (t : Token) (w x y left : List Token) → w ≡ t ∷ [] → w ++ x ≡ y → front y ≡ front left → front left ≡ t
first_of t w x y left n e h = sym h ∙ ap front (sym e) ∙ ap (λ l. front (l ++ x)) n

-- where no other scalar begins, a string is next
pub string_resumes : (left : List Token) → (front left ≡ Word (codes "Null") → ⊥) → (front left ≡ Word (codes "True") → ⊥) → (front left ≡ Word (codes "False") → ⊥)
    → ((i : ℤ) → front left ≡ Integer i → ⊥) → Resumes any AScalar [] AString cells.Str left
string_resumes left no_null no_true no_false no_int = record { on = λ ts u m. m; back = λ w v x y n o h e. back w v x y n h e }
  where
    back : (w : List Token) (v : Cell) (x y : List Token) → AScalar w v → front y ≡ front left → w ++ x ≡ y
        → (ts : List Token) × (u : List ℕ) × AString ts u × (w ≡ ts) × (v ≡ cells.Str u)
    back w cells.Null x y n h e = absurd (no_null (first_of (Word (codes "Null")) w x y left n e h))
    back w (cells.Bool true) x y n h e = absurd (no_true (first_of (Word (codes "True")) w x y left n e h))
    back w (cells.Bool false) x y n h e = absurd (no_false (first_of (Word (codes "False")) w x y left n e h))
    back w (cells.Int i) x y n h e = absurd (no_int i (first_of (Integer i) w x y left n e h))
    back w (cells.Str s) x y n h e = (w, s, n, refl, refl)
    back w (cells.Vec l) x y n h e = absurd n
    back w (cells.Dict l) x y n h e = absurd n
    back w (cells.Keyset l) x y n h e = absurd n
    back w (cells.Obj l) x y n h e = absurd n

-- where no empty container is next, a scalar is
pub scalar_resumes : (left : List Token) → (front left ≡ Word (codes "Vec") → ⊥) → (front left ≡ Word (codes "Dict") → ⊥) → (front left ≡ Word (codes "Keyset") → ⊥)
    → Resumes any AnInitial [] AScalar (λ v. v) left
scalar_resumes left no_vec no_dict no_keyset = record { on = λ ts u m. on ts u m; back = λ w v x y n o h e. back w v x y n h e }
  where
    on : (ts : List Token) (u : Cell) → AScalar ts u → AnInitial ts u
    on ts cells.Null m = m
    on ts (cells.Bool true) m = m
    on ts (cells.Bool false) m = m
    on ts (cells.Int i) m = m
    on ts (cells.Str s) m = m
    on ts (cells.Vec l) m = absurd m
    on ts (cells.Dict l) m = absurd m
    on ts (cells.Keyset l) m = absurd m
    on ts (cells.Obj l) m = absurd m

    back : (w : List Token) (v : Cell) (x y : List Token) → AnInitial w v → front y ≡ front left → w ++ x ≡ y
        → (ts : List Token) × (u : Cell) × AScalar ts u × (w ≡ ts) × (v ≡ u)
    back w cells.Null x y n h e = (w, cells.Null, n, refl, refl)
    back w (cells.Bool true) x y n h e = (w, cells.Bool true, n, refl, refl)
    back w (cells.Bool false) x y n h e = (w, cells.Bool false, n, refl, refl)
    back w (cells.Int i) x y n h e = (w, cells.Int i, n, refl, refl)
    back w (cells.Str s) x y n h e = (w, cells.Str s, n, refl, refl)
    back w (cells.Vec []) x y n h e = absurd (no_vec (first_of (Word (codes "Vec")) w x y left n e h))
    back w (cells.Vec (c ∷ cs)) x y n h e = absurd n
    back w (cells.Dict []) x y n h e = absurd (no_dict (first_of (Word (codes "Dict")) w x y left n e h))
    back w (cells.Dict (c ∷ cs)) x y n h e = absurd n
    back w (cells.Keyset []) x y n h e = absurd (no_keyset (first_of (Word (codes "Keyset")) w x y left n e h))
    back w (cells.Keyset (c ∷ cs)) x y n h e = absurd n
    back w (cells.Obj l) x y n h e = absurd n
