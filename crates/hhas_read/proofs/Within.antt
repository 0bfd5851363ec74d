-- What is left of a language within one that it begins.
use Rattle.std.proofs.Common.{◌≡◌, true, List, [], ◌∷◌, ◌++◌, refl, sym, ap, ◌∙◌, append_assoc}
use Rattle.hhas_lex.specs.Tokens.{Token}
use Rattle.hhbc_repo.specs.Languages.{Lang, Behind, Both, Ended, Says}
use Rattle.hhas_read.specs.Reading.{Follow, Just}
use Rattle.hhas_read.proofs.Resuming.{Resumes}

pub ended_within : {V W : Type 0} (F G : Follow) (N : Lang V) (used : List Token) (M : Lang W) (f : W → V) (t : Token) (words left : List Token) → G t ≡ true
    → Resumes G N used M f left → Resumes F (Ended N (t ∷ words)) used (Ended M (t ∷ words)) f left
ended_within F G N used M f t words left g r = record {
  on = λ ts u m. record { first = used ++ m.first; word = r.on m.first u m.word; tokens = ap (λ l. used ++ l) m.tokens ∙ sym (append_assoc used m.first (t ∷ words)) };
  back = λ w v x y n o h e.
      let one = r.back n.first v ((t ∷ words) ++ x) y n.word g h (sym (append_assoc n.first (t ∷ words) x) ∙ ap (λ l. l ++ x) (sym n.tokens) ∙ e) in (
        one.0 ++ (t ∷ words),
        one.1,
        record { first = one.0; word = one.2; tokens = refl },
        n.tokens ∙ ap (λ l. l ++ (t ∷ words)) one.3 ∙ append_assoc used one.0 (t ∷ words),
        one.4,
      );
}

-- nothing, and then a token
pub nothing_ended : {V : Type 0} (F : Follow) (v : V) (t : Token) (left : List Token) → Resumes F (Ended (Says [] v) (t ∷ [])) [] (Just t) (λ u. v) left
nothing_ended F v t left = record {
  on = λ ts u m. record { first = []; word = (refl, refl); tokens = m };
  back = λ w z x y n o h e. (w, tt, n.tokens ∙ ap (λ l. l ++ (t ∷ [])) n.word.0, refl, n.word.1);
}

-- the fixed tokens that the second begins with end the first
pub fixed_between : {V W : Type 0} (F : Follow) (A : Lang V) (words : List Token) (B : Lang W) (left : List Token)
    → Resumes F (Both A (Behind words B)) [] (Both (Ended A words) B) (λ p. p) left
fixed_between F A words B left = record {
  on = λ ts p m. record {
    first = m.left.first;
    second = words ++ m.second;
    left = m.left.word;
    right = record { rest = m.second; word = m.right; tokens = refl };
    tokens = m.tokens ∙ ap (λ l. l ++ m.second) m.left.tokens ∙ append_assoc m.left.first words m.second;
  };
  back = λ w v x y n o h e. (
    w,
    v,
    record {
      first = n.first ++ words;
      second = n.right.rest;
      left = record { first = n.first; word = n.left; tokens = refl };
      right = n.right.word;
      tokens = n.tokens ∙ ap (λ l. n.first ++ l) n.right.tokens ∙ sym (append_assoc n.first words n.right.rest);
    },
    refl,
    refl,
  );
}
