-- Elements with bars between them, each of a line of its own, the lines ascending.
use Rattle.std.proofs.Common.{Err, ◌≡◌, ℕ, suc, Bool, true, false, ◌&&◌, List, [], ◌∷◌, ◌++◌, map, refl, sym, ap, ◌∙◌, append_assoc, subst, inl, inr}
use Rattle.std.specs.List.{list_all}
use Rattle.hhas_lex.specs.Tokens.{Token, Mark, front}
use Rattle.hhbc_repo.specs.Languages.{Lang}
use Rattle.hhas_read.specs.Lists as lists
use Rattle.hhas_read.specs.Reading.{Placed, Past, Follow, StuckAt, Reads, Taken, next}
use Rattle.hhas_read.specs.declared.reader.Stop.{Stop}
use Rattle.hhas_read.specs.declared.reader.Stop.TheVariants.{Syntax, NoMemory}
use Rattle.hhas_read.proofs.Resuming.{Resumes, past_none, past_on, resumes_same, resumes_then}
use Rattle.hhas_read.proofs.Reserved.{never_both}

both_true : (a b : Bool) → a ≡ true → b ≡ true → a && b ≡ true
both_true a b e f = ap (λ c. c && b) e ∙ f

first_true : (a b : Bool) → a && b ≡ true → a ≡ true
first_true true b e = refl
first_true false b e = absurd (never_both (sym e))

second_true : (a b : Bool) → a && b ≡ true → b ≡ true
second_true true b e = e
second_true false b e = absurd (never_both (sym e))

-- each word, followed as it may be, stands apart from what follows, and has one value
abbrev pub Same : {V : Type 0} → Follow → Lang V → Type 0
Same {V} F A = (a b x y : List Token) (v w : V) → A a v → A b w → F (front x) ≡ true → F (front y) ≡ true → a ++ x ≡ b ++ y → (a ≡ b) × (v ≡ w)

module _ {V W : Type 0} (g : V → W) (A : Lang W) (line : W → ℕ) (ok : W → Bool) where
  abbrev pub Elem : ℕ → Lang V
  Elem = lists.Elem g A line ok

  abbrev pub Rising : ℕ → Lang (List V)
  Rising = lists.Rising g A line ok

  abbrev pub More : ℕ → Lang (List V)
  More = lists.More g A line ok

  module _ (F G : Follow) (wider : (t : Token) → F t ≡ true → G t ≡ true) (bar : G (Mark 124) ≡ true) where
    -- the first element of a list
    first_of : (least : ℕ) (w : List Token) (vs : List V) (x : List Token) → Rising least w vs → F (front x) ≡ true
        → (a : List Token) × (v : V) × (rest : List Token) × (us : List V) × Elem least a v × More (suc (line (g v))) rest us × (w ≡ a ++ rest) × (vs ≡ v ∷ us) × (G (front (rest ++ x)) ≡ true)
    first_of least w [] x n o = absurd n.0
    first_of least w (v ∷ []) x n o =
        (w, v, [], [], (n.0, n.1.0, first_true (ok (g v)) true n.2), inl (refl, refl), sym (nothing w), refl, wider (front x) o)
      where
        nothing : (l : List Token) → l ++ [] ≡ l
        nothing [] = refl
        nothing (t ∷ l) = ap (λ z. t ∷ z) (nothing l)
    first_of least w (v ∷ u ∷ us) x n o = (
      n.0.0,
      v,
      Mark 124 ∷ n.0.1,
      u ∷ us,
      (n.0.2, n.1.0, first_true (ok (g v)) (list_all ok (map g (u ∷ us))) n.2),
      inr (record { rest = n.0.1; word = (n.0.3, n.1.1, second_true (ok (g v)) (list_all ok (map g (u ∷ us))) n.2); tokens = refl }),
      n.0.4,
      refl,
      bar,
    )

    with_more : (least : ℕ) (a rest : List Token) (v : V) (us : List V) → Elem least a v → More (suc (line (g v))) rest us → Rising least (a ++ rest) (v ∷ us)
    with_more least a rest v us n (inl m) =
        subst (λ z. Rising least (a ++ rest) (v ∷ z)) (sym m.1) (subst (λ z. A (a ++ z) (g v)) (sym m.0) (subst (λ z. A z (g v)) (nothing a) n.0), (n.1, tt), both_true (ok (g v)) true n.2 refl)
      where
        nothing : (l : List Token) → l ≡ l ++ []
        nothing [] = refl
        nothing (t ∷ l) = ap (λ z. t ∷ z) (nothing l)
    with_more least a rest v [] n (inr m) = absurd m.word.0
    with_more least a rest v (u ∷ us) n (inr m) =
        ((a, m.rest, n.0, m.word.0, ap (λ z. a ++ z) m.tokens), (n.1, m.word.1), both_true (ok (g v)) (list_all ok (map g (u ∷ us))) n.2 m.word.2)

    pub first_resumes : (least : ℕ) (old mid : Placed) (v : V) → Same G (Elem least) → (t : Taken G (Elem least) old mid v)
        → Resumes F (Rising least) t.used (More (suc (line (g v)))) (λ us. v ∷ us) mid.tokens
    first_resumes least old mid v same t = record {
      on = λ ts us m. with_more least t.used ts v us t.word m;
      back = λ w vs x y n o h e.
          let f = first_of least w vs x n o in
          let s = same f.0 t.used (f.2 ++ x) y f.1 v f.4 t.word f.8 (ap G h ∙ t.follows) (sym (append_assoc f.0 f.2 x) ∙ ap (λ l. l ++ x) (sym f.6) ∙ e) in
          (f.2, f.3, subst (λ z. More (suc (line (g z))) f.2 f.3) s.1 f.5, f.6 ∙ ap (λ l. l ++ f.2) s.0, f.7 ∙ ap (λ z. z ∷ f.3) s.1);
    }

    pub first_stuck : (least : ℕ) (old new : Placed) → StuckAt G (Elem least) old new → StuckAt F (Rising least) old new
    first_stuck least old new s = record {
      read = s.read;
      past = s.past;
      viable = record {
        more = s.viable.more;
        value = s.viable.value ∷ [];
        word = (s.viable.word.0, (s.viable.word.1, tt), both_true (ok (g s.viable.value)) true s.viable.word.2 refl);
        proper = s.viable.proper;
      };
      dead = λ w vs x y n o d.
          let f = first_of least w vs x n o in s.dead f.0 f.1 (f.2 ++ x) y f.4 f.8 (sym (append_assoc f.0 f.2 x) ∙ ap (λ l. l ++ x) (sym f.6) ∙ d);
    }

    -- ---- behind an element

    pub more_goes_on : F (Mark 124) ≡ false → (least : ℕ) (left : List Token) → Resumes F (More least) (Mark 124 ∷ []) (Rising least) (λ us. us) left
    more_goes_on no_bar least left = record {
      on = λ ts u m. inr (record { rest = ts; word = m; tokens = refl });
      back = λ w v x y n o h e. elim n [
        | inl l ↦ absurd (never_both (sym o ∙ ap F (ap front (sym (ap (λ z. z ++ x) l.0) ∙ e)) ∙ no_bar))
        | inr r ↦ (r.rest, v, r.word, r.tokens, refl)
      ];
    }

    pub more_ends : (least : ℕ) (p : Placed) → F (next p) ≡ true → Taken F (More least) p p []
    more_ends least p f = record { used = []; past = past_none p; word = inl (refl, refl); follows = f }

    -- no element follows, and the next token doesn't
    pub more_stuck : (least : ℕ) (p : Placed) → F (next p) ≡ false
        → (next p ≡ Mark 124 → (a : List Token) (v : V) → Elem least a v → ⊥) → StuckAt F (More least) p p
    more_stuck least p f none = record {
      read = [];
      past = past_none p;
      viable = record { more = []; value = []; word = inl (refl, refl); proper = refl };
      dead = λ w v x y n o d. elim n [
        | inl l ↦ never_both (sym o ∙ ap F (ap front (sym (ap (λ z. z ++ x) l.0) ∙ d)) ∙ f)
        | inr r ↦ let one = first_of least r.rest v x r.word o in none (ap front (sym d) ∙ ap front (ap (λ z. z ++ x) r.tokens)) one.0 one.1 one.4
      ];
    }

    -- ---- the elements so far of a list, and one more

    pub to_more : (N : Lang (List V)) (least : ℕ) (start old mid : Placed) (out : List V) (v : V) → Same G (Elem least)
        → (inv : (used : List Token) × Past used start old × Resumes F N used (Rising least) (λ ys. out ++ ys) old.tokens)
        → Taken G (Elem least) old mid v
        → (used : List Token) × Past used start mid × Resumes F N used (More (suc (line (g v)))) (λ us. out ++ (v ∷ us)) mid.tokens
    to_more N least start old mid out v same inv t = (
      inv.0 ++ t.used,
      past_on inv.1 t.past,
      resumes_then F N (Rising least) (More (suc (line (g v)))) inv.0 t.used old.tokens mid.tokens (λ ys. out ++ ys) (λ us. v ∷ us) inv.2
          (first_resumes least old mid v same t) t.past.tokens,
    )

    -- and the bar behind it
    pub one_more : F (Mark 124) ≡ false → (N : Lang (List V)) (least : ℕ) (start mid new : Placed) (out more : List V) (v : V)
        → (far : (used : List Token) × Past used start mid × Resumes F N used (More least) (λ us. out ++ (v ∷ us)) mid.tokens)
        → next mid ≡ Mark 124 → Past (next mid ∷ []) mid new → more ≡ out ++ v ∷ []
        → (used : List Token) × Past used start new × Resumes F N used (Rising least) (λ ys. more ++ ys) new.tokens
    one_more no_bar N least start mid new out more v far at past pushed =
        let on : Past (Mark 124 ∷ []) mid new = subst (λ t. Past (t ∷ []) mid new) at past in
        let all : Resumes F N (far.0 ++ (Mark 124 ∷ [])) (Rising least) (λ ys. out ++ (v ∷ ys)) new.tokens =
        resumes_then F N (More least) (Rising least) far.0 (Mark 124 ∷ []) mid.tokens new.tokens (λ us. out ++ (v ∷ us)) (λ us. us) far.2
        (more_goes_on no_bar least new.tokens) on.tokens in (
          far.0 ++ (Mark 124 ∷ []),
          past_on far.1 on,
          resumes_same F N (Rising least) (far.0 ++ (Mark 124 ∷ [])) new.tokens (λ ys. out ++ (v ∷ ys)) (λ ys. more ++ ys)
              (λ ys. sym (ap (λ l. l ++ ys) pushed ∙ append_assoc out (v ∷ []) ys)) all,
        )

    pub first_stop : (least : ℕ) (old new : Placed) (e : Stop) → Reads G (Elem least) old (Err e) new → Reads F (Rising least) old (Err e) new
    first_stop least old new Syntax s = first_stuck least old new s
    first_stop least old new NoMemory s = tt
