-- Lists with a mark between their elements, and a token at their end.
use Rattle.std.proofs.Common.{◌≡◌, ℕ, true, ◌&&◌, List, [], ◌∷◌, ◌++◌, refl, sym, ap, ◌∙◌, append_assoc, subst, inl, inr}
use Rattle.hhas_lex.specs.Tokens.{Token, Mark}
use Rattle.hhas_lex.specs.Spelling.{is_proper}
use Rattle.hhbc_repo.specs.Languages.{Lang, Says, Behind, Ended, Both, Either, Separated}
use Rattle.hhas_read.specs.Reading.{Placed, Past, Follow, Viable, StuckAt, Taken, next}
use Rattle.hhas_read.proofs.Resuming.{Resumes, past_none, past_on, resumes_same, resumes_then}

module _ {V : Type 0} (mark : ℕ) (A : Lang V) (end : Token) where
  -- elements, and the end
  abbrev pub Listed : Lang (List V)
  Listed = Ended (Separated mark A) (end ∷ [])

  -- what stands behind an element
  abbrev pub Left : Lang (List V)
  Left = Either (Says (end ∷ []) []) (Behind (Mark mark ∷ []) Listed)

  abbrev pub first_and_more : V × List V → List V
  first_and_more p = p.0 ∷ p.1

  pub listed_split : (w : List Token) (v : V) (vs : List V) → Listed w (v ∷ vs) → Both A Left w (v, vs)
  listed_split w v [] n = record { first = n.first; second = end ∷ []; left = n.word; right = inl (refl, refl); tokens = n.tokens }
  listed_split w v (u ∷ vs) n = record {
    first = n.word.0;
    second = Mark mark ∷ (n.word.1 ++ (end ∷ []));
    left = n.word.2;
    right = inr (record { rest = n.word.1 ++ (end ∷ []); word = record { first = n.word.1; word = n.word.3; tokens = refl }; tokens = refl });
    tokens = n.tokens ∙ ap (λ z. z ++ (end ∷ [])) n.word.4 ∙ append_assoc n.word.0 (Mark mark ∷ n.word.1) (end ∷ []);
  }

  pub listed_resumes : (F : Follow) (left : List Token) → Resumes F Listed [] (Both A Left) first_and_more left
  listed_resumes F left = record { on = λ ts u m. on ts u.0 u.1 m.first m.second m.left m.right m.tokens; back = λ w v x y n o h e. back w v n }
    where
      on : (ts : List Token) (u : V) (us : List V) (a b : List Token) → A a u → Left b us → ts ≡ a ++ b → Listed ts (u ∷ us)
      on ts u us a b l (inl r) e = subst (λ z. Listed ts (u ∷ z)) (sym r.1) (record { first = a; word = l; tokens = e ∙ ap (λ z. a ++ z) r.0 })
      on ts u [] a b l (inr r) e = absurd r.word.word
      on ts u (v ∷ vs) a b l (inr r) e = record {
        first = a ++ (Mark mark ∷ r.word.first);
        word = (a, r.word.first, l, r.word.word, refl);
        tokens = e ∙ ap (λ z. a ++ z) (r.tokens ∙ ap (λ z. Mark mark ∷ z) r.word.tokens) ∙ sym (append_assoc a (Mark mark ∷ r.word.first) (end ∷ []));
      }

      back : (w : List Token) (v : List V) → Listed w v → (ts : List Token) × (u : V × List V) × Both A Left ts u × (w ≡ ts) × (v ≡ first_and_more u)
      back w [] n = absurd n.word
      back w (v ∷ vs) n = (w, (v, vs), listed_split w v vs n, refl, refl)

  pub left_some : is_proper end ≡ true → Viable Left []
  left_some e = record { more = end ∷ []; value = []; word = inl (refl, refl); proper = ap (λ c. c && true) e }

  -- neither the mark nor the end
  pub left_stuck : (F : Follow) → is_proper end ≡ true → (p : Placed) → (next p ≡ Mark mark → ⊥) → (next p ≡ end → ⊥) → StuckAt F Left p p
  left_stuck F e p no_mark no_end = record {
    read = [];
    past = past_none p;
    viable = left_some e;
    dead = λ w v x y n o d. elim n [
      | inl m ↦ no_end (sym (cc (d, ap (λ l. l ++ x) m.0)))
      | inr m ↦ no_mark (sym (cc (d, ap (λ l. l ++ x) m.tokens)))
    ];
  }

  pub left_ends : (F : Follow) (p q : Placed) → next p ≡ end → Past (next p ∷ []) p q → F (next q) ≡ true → Taken F Left p q []
  left_ends F p q e past f = record { used = next p ∷ []; past = past; word = inl (ap (λ t. t ∷ []) e, refl); follows = f }

  pub left_goes_on : (F : Follow) (left : List Token) → (end ≡ Mark mark → ⊥) → Resumes F Left (Mark mark ∷ []) Listed (λ v. v) left
  left_goes_on F left other = record {
    on = λ ts u m. inr (record { rest = ts; word = m; tokens = refl });
    back = λ w v x y n o h e. elim n [
      | inl m ↦ absurd (other (cc (e, ap (λ l. l ++ x) m.0)))
      | inr m ↦ (m.rest, v, m.word, m.tokens, refl)
    ];
  }

  -- the elements so far, and one more
  pub to_left : (F : Follow) (start old mid : Placed) (out : List V) (x : V)
      → (inv : (used : List Token) × Past used start old × Resumes F Listed used Listed (λ ys. out ++ ys) old.tokens)
      → (one : (b : List Token) × Past b old mid × Resumes F (Both A Left) b Left (λ b. (x, b)) mid.tokens)
      → (used : List Token) × Past used start mid × Resumes F Listed used Left (λ ys. out ++ (x ∷ ys)) mid.tokens
  to_left F start old mid out x inv one =
      let step : Resumes F Listed one.0 Left (λ ys. x ∷ ys) mid.tokens =
      resumes_then F Listed (Both A Left) Left [] one.0 old.tokens mid.tokens first_and_more (λ b. (x, b)) (listed_resumes F old.tokens) one.2 one.1.tokens in (
        inv.0 ++ one.0,
        past_on inv.1 one.1,
        resumes_then F Listed Listed Left inv.0 one.0 old.tokens mid.tokens (λ ys. out ++ ys) (λ ys. x ∷ ys) inv.2 step one.1.tokens,
      )

  -- and the mark behind it
  pub one_more : (F : Follow) (start mid new : Placed) (out more : List V) (x : V) → (end ≡ Mark mark → ⊥)
      → (far : (used : List Token) × Past used start mid × Resumes F Listed used Left (λ ys. out ++ (x ∷ ys)) mid.tokens)
      → next mid ≡ Mark mark → Past (next mid ∷ []) mid new → more ≡ out ++ x ∷ []
      → (used : List Token) × Past used start new × Resumes F Listed used Listed (λ ys. more ++ ys) new.tokens
  one_more F start mid new out more x other far at past pushed =
      let on : Past (Mark mark ∷ []) mid new = subst (λ t. Past (t ∷ []) mid new) at past in
      let all : Resumes F Listed (far.0 ++ (Mark mark ∷ [])) Listed (λ ys. out ++ (x ∷ ys)) new.tokens =
      resumes_then F Listed Left Listed far.0 (Mark mark ∷ []) mid.tokens new.tokens (λ ys. out ++ (x ∷ ys)) (λ v. v) far.2 (left_goes_on F new.tokens other) on.tokens in (
        far.0 ++ (Mark mark ∷ []),
        past_on far.1 on,
        resumes_same F Listed Listed (far.0 ++ (Mark mark ∷ [])) new.tokens (λ ys. out ++ (x ∷ ys)) (λ ys. more ++ ys)
            (λ ys. sym (ap (λ l. l ++ ys) pushed ∙ append_assoc out (x ∷ []) ys)) all,
      )
