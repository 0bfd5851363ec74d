-- None, one or several of a language, where the token behind them begins none.
use Rattle.std.proofs.Common.{◌≡◌, true, false, List, [], ◌∷◌, ◌++◌, refl, sym, ap, ◌∙◌, append_assoc, append-nil, subst, Err}
use Rattle.hhas_lex.specs.Tokens.{Token, front}
use Rattle.hhbc_repo.specs.Languages.{Lang, Both, Many}
use Rattle.hhas_read.specs.declared.reader.Stop.{Stop}
use Rattle.hhas_read.specs.Reading.{Placed, Past, Follow, Reads, Taken, Viable, any, next}
use Rattle.hhas_read.proofs.Reserved.{never_both}
use Rattle.hhas_read.proofs.Resuming.{Resumes, cancel, past_none, past_on, resumes_same, resumes_start, resumes_then, stop_lifts, taken_lifts}
use Rattle.hhas_read.proofs.Joining.{Lawful, both_resumes, both_stop}

pub many_some : {V : Type 0} (A : Lang V) → Viable (Many A) []
many_some A = record { more = []; value = []; word = refl; proper = refl }

-- ---- each stands apart from what follows the last

module _ {V : Type 0} (F : Follow) (A : Lang V) (apart : (w : List Token) (v : V) (x : List Token) → A w v → F (front (w ++ x)) ≡ true → ⊥) (law : Lawful any A) where
  same : (a b x y : List Token) (vs ws : List V) → Many A a vs → Many A b ws → F (front x) ≡ true → F (front y) ≡ true → a ++ x ≡ b ++ y → (a ≡ b) × (vs ≡ ws)
  same a b x y [] [] n m o p d = (n ∙ sym m, refl)
  same a b x y [] (w ∷ ws) n m o p d =
      let whole : x ≡ m.0 ++ (m.1 ++ y) = ap (λ l. l ++ x) (sym n) ∙ d ∙ ap (λ l. l ++ y) m.4 ∙ append_assoc m.0 m.1 y in
      absurd (apart m.0 w (m.1 ++ y) m.2 (ap (λ l. F (front l)) (sym whole) ∙ o))
  same a b x y (v ∷ vs) [] n m o p d =
      let whole : y ≡ n.0 ++ (n.1 ++ x) = ap (λ l. l ++ y) (sym m) ∙ sym d ∙ ap (λ l. l ++ x) n.4 ∙ append_assoc n.0 n.1 x in
      absurd (apart n.0 v (n.1 ++ x) n.2 (ap (λ l. F (front l)) (sym whole) ∙ p))
  same a b x y (v ∷ vs) (w ∷ ws) n m o p d =
      let joined = sym (append_assoc n.0 n.1 x) ∙ ap (λ l. l ++ x) (sym n.4) ∙ d ∙ ap (λ l. l ++ y) m.4 ∙ append_assoc m.0 m.1 y in
      let one = law.same n.0 m.0 (n.1 ++ x) (m.1 ++ y) v w n.2 m.2 refl refl joined in
      let rest : n.1 ++ x ≡ m.1 ++ y = cancel m.0 _ _ (ap (λ l. l ++ (n.1 ++ x)) (sym one.0) ∙ joined) in
      let two = same n.1 m.1 x y vs ws n.3 m.3 o p rest in
      (n.4 ∙ (λ i. one.0 i ++ two.0 i) ∙ sym m.4, λ i. one.1 i ∷ two.1 i)

  pub many_lawful : Lawful F (Many A)
  many_lawful = record { same = same; some = many_some A }

-- ---- they are read one after the other

module _ {V : Type 0} (F : Follow) (A : Lang V) where
  -- one at least is left
  many_next : (left : List Token) → F (front left) ≡ false → Resumes F (Many A) [] (Both A (Many A)) (λ p. p.0 ∷ p.1) left
  many_next left other = record {
    on = λ ts u m. (m.first, m.second, m.left, m.right, m.tokens);
    back = λ w v x y n o h e. back w v x y n o h e;
  }
    where
      back : (w : List Token) (vs : List V) (x y : List Token) → Many A w vs → F (front x) ≡ true → front y ≡ front left → w ++ x ≡ y
          → (ts : List Token) × (u : V × List V) × Both A (Many A) ts u × (w ≡ ts) × (vs ≡ u.0 ∷ u.1)
      back w [] x y n o h e = absurd (never_both (sym o ∙ ap (λ l. F (front l)) (ap (λ l. l ++ x) (sym n) ∙ e) ∙ ap F h ∙ other))
      back w (v ∷ vs) x y n o h e = (w, (v, vs), record { first = n.0; second = n.1; left = n.2; right = n.3; tokens = n.4 }, refl, refl)

  -- some were taken
  abbrev pub ManyTaken : Placed → Placed → List V → Type 0
  ManyTaken start now done = (used : List Token) × Past used start now × Resumes F (Many A) used (Many A) (λ vs. done ++ vs) now.tokens

  pub none_taken : (start : Placed) → ManyTaken start start []
  none_taken start = ([], past_none start, resumes_start F (Many A) start.tokens)

  next_taken : (start now : Placed) (done : List V) → (inv : ManyTaken start now done) → F (next now) ≡ false
      → Resumes F (Many A) (inv.0 ++ []) (Both A (Many A)) (λ p. done ++ (p.0 ∷ p.1)) now.tokens
  next_taken start now done inv other =
      resumes_then F (Many A) (Many A) (Both A (Many A)) inv.0 [] now.tokens now.tokens (λ vs. done ++ vs) (λ p. p.0 ∷ p.1) inv.2 (many_next now.tokens other) refl

  -- the next one goes wrong
  pub many_stops : (start old new : Placed) (done : List V) (e : Stop) → ManyTaken start old done → F (next old) ≡ false → Reads any A old (Err e) new
      → Reads F (Many A) start (Err e) new
  many_stops start old new done e inv other s =
      stop_lifts F (Many A) (Both A (Many A)) start old new (inv.0 ++ []) (λ p. done ++ (p.0 ∷ p.1)) e (next_taken start old done inv other) (past_on inv.1 (past_none old))
      (both_stop F any A (Many A) (λ b v x m o. refl) old new e (many_some A) s)

  -- and one more
  pub one_taken : Lawful any A → (start old mid : Placed) (done : List V) (v : V) → ManyTaken start old done → F (next old) ≡ false → Taken any A old mid v
      → ManyTaken start mid (done ++ v ∷ [])
  one_taken law start old mid done v inv other t =
      let step = resumes_then F (Many A) (Both A (Many A)) (Many A) (inv.0 ++ []) t.used old.tokens mid.tokens (λ p. done ++ (p.0 ∷ p.1)) (λ vs. (v, vs))
      (next_taken start old done inv other) (both_resumes F any A (Many A) (λ b u x m o. refl) old mid v law t) t.past.tokens in (
        (inv.0 ++ []) ++ t.used,
        past_on (past_on inv.1 (past_none old)) t.past,
        resumes_same F (Many A) (Many A) ((inv.0 ++ []) ++ t.used) mid.tokens (λ vs. done ++ (v ∷ vs)) (λ vs. (done ++ v ∷ []) ++ vs)
            (λ vs. sym (append_assoc done (v ∷ []) vs)) step,
      )

  -- none is left
  pub all_taken : (start now : Placed) (done : List V) → ManyTaken start now done → F (next now) ≡ true → Taken F (Many A) start now done
  all_taken start now done inv ends =
      subst (Taken F (Many A) start now) (append-nil done)
      (taken_lifts F (Many A) (Many A) start now now inv.0 (λ vs. done ++ vs) [] inv.2 inv.1 (record { used = []; past = past_none now; word = refl; follows = ends }))
