-- Locals in parentheses.
use Rattle.std.proofs.Common.{◌≡◌, ℕ, true, List, [], ◌∷◌, ◌++◌, refl, sym, ap, inl, inr}
use Rattle.hhas_lex.specs.Tokens.{Token, Mark, front}
use Rattle.hhbc_repo.specs.Languages.{Lang, Says, Either}
use Rattle.hhbc_repo.specs.BodySyntax.{Params}
use Rattle.hhas_read.specs.Reading.{Placed, StuckAt, LocalsTo, next, any}
use Rattle.hhas_read.proofs.Resuming.{Resumes, past_none}
use Rattle.hhas_read.proofs.Joining.{NeverBegins}

abbrev pub Closed : Lang (List (List ℕ))
Closed = Says (Mark 41 ∷ []) []

-- what stands behind the parenthesis that opens
abbrev pub Opened : Lang (List (List ℕ))
Opened = Either Closed (LocalsTo 41)

pub opened_resumes : (left : List Token) → Resumes any Params (Mark 40 ∷ []) Opened (λ v. v) left
opened_resumes left = record { on = on; back = λ w v x y n o h e. back w v n }
  where
    on : (ts : List Token) (v : List (List ℕ)) → Opened ts v → Params (Mark 40 ∷ ts) v
    on ts [] (inl c) = ap (λ l. Mark 40 ∷ l) c.0
    on ts [] (inr l) = absurd l.word
    on ts (x ∷ xs) (inl c) = absurd (cc c.1)
    on ts (x ∷ xs) (inr l) = record { rest = ts; word = l; tokens = refl }

    back : (w : List Token) (v : List (List ℕ)) → Params w v → (ts : List Token) × (u : List (List ℕ)) × Opened ts u × (w ≡ Mark 40 ∷ ts) × (v ≡ u)
    back w [] n = (Mark 41 ∷ [], [], inl (refl, refl), n, refl)
    back w (x ∷ xs) n = (n.rest, x ∷ xs, inr n.word, n.tokens, refl)

pub never_closed : (t : Token) → (t ≡ Mark 41 → ⊥) → NeverBegins any Closed t
never_closed t other w v x y n o e = other (sym (cc (e, ap (λ l. l ++ x) n.0)))

pub params_stuck : (p : Placed) → (next p ≡ Mark 40 → ⊥) → StuckAt any Params p p
params_stuck p other = record {
  read = [];
  past = past_none p;
  viable = record { more = Mark 40 ∷ Mark 41 ∷ []; value = []; word = refl; proper = refl };
  dead = dead;
}
  where
    dead : (w : List Token) (v : List (List ℕ)) (x y : List Token) → Params w v → any (front x) ≡ true → w ++ x ≡ next p ∷ y → ⊥
    dead w [] x y n o e = other (sym (cc (e, ap (λ l. l ++ x) n)))
    dead w (z ∷ zs) x y n o e = other (sym (cc (e, ap (λ l. l ++ x) n.tokens)))
