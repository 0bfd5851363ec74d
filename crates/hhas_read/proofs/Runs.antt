-- None, one or several of one language, and another behind them.
use Rattle.std.proofs.Common.{◌≡◌, true, List, [], ◌∷◌, ◌++◌, refl, sym, ap, ◌∙◌, append_assoc, subst}
use Rattle.hhas_lex.specs.Tokens.{Token, front}
use Rattle.hhbc_repo.specs.Languages.{Lang, Both, Many}
use Rattle.hhas_read.specs.Reading.{Follow, Viable}
use Rattle.hhas_read.proofs.Resuming.{Resumes}
use Rattle.hhas_read.proofs.Joining.{LeadsOn}
use Rattle.hhas_read.proofs.Following.{Avoids}

in_front : (w a b x : List Token) → w ≡ a ++ b → front (w ++ x) ≡ front (a ++ (b ++ x))
in_front w a b x e = ap (λ l. front (l ++ x)) e ∙ ap front (append_assoc a b x)

module _ {V W : Type 0} (A : Lang V) (B : Lang W) where
  abbrev pub Run : Lang (List V × W)
  Run = Both (Many A) B

  abbrev pub first_of : V × (List V × W) → List V × W
  first_of p = (p.0 ∷ p.1.0, p.1.1)

  -- a run with one at least begins with it
  pub run_split : (w : List Token) (v : V) (vs : List V) (b : W) → Run w (v ∷ vs, b) → Both A Run w (v, (vs, b))
  run_split w v vs b n =
      let m = n.left in record {
        first = m.0;
        second = m.1 ++ n.second;
        left = m.2;
        right = record { first = m.1; second = n.second; left = m.3; right = n.right; tokens = refl };
        tokens = n.tokens ∙ ap (λ z. z ++ n.second) m.4 ∙ append_assoc m.0 m.1 n.second;
      }

  pub run_join : (w : List Token) (v : V) (vs : List V) (b : W) → Both A Run w (v, (vs, b)) → Run w (v ∷ vs, b)
  run_join w v vs b m = record {
    first = m.first ++ m.right.first;
    second = m.right.second;
    left = (m.first, m.right.first, m.left, m.right.left, refl);
    right = m.right.right;
    tokens = m.tokens ∙ ap (λ l. m.first ++ l) m.right.tokens ∙ sym (append_assoc m.first m.right.first m.right.second);
  }

  -- and a run without one is the word behind it
  pub run_none : (w : List Token) (b : W) → Run w ([], b) → B w b
  run_none w b n = subst (λ z. B z b) (sym (n.tokens ∙ ap (λ l. l ++ n.second) n.left)) n.right

  pub run_some : Viable B [] → Viable Run []
  run_some b = record {
    more = b.more;
    value = ([], b.value);
    word = record { first = []; second = b.more; left = refl; right = b.word; tokens = refl };
    proper = b.proper;
  }

-- what may follow one of them, and what may follow the whole
module _ {V W : Type 0} (F G : Follow) (A : Lang V) (B : Lang W) where
  -- a run may follow one of them
  pub run_leads : LeadsOn F B G → LeadsOn G A G → LeadsOn F (Run A B) G
  run_leads last more w v x n o = leads w v.0 v.1 n
    where
      leads : (w : List Token) (vs : List V) (b : W) → Run A B w (vs, b) → G (front (w ++ x)) ≡ true
      leads w [] b n = last w b x (run_none A B w b n) o
      leads w (v ∷ vs) b n =
          let m = run_split A B w v vs b n in
          ap G (in_front w m.first m.second x m.tokens) ∙ more m.first v (m.second ++ x) m.left (leads m.second vs b m.right)

module _ {V W : Type 0} (F G : Follow) (A : Lang V) (B : Lang W) (leads : LeadsOn F (Run A B) G) where
  -- none is left
  pub run_ends : (left : List Token) → Avoids G A (front left) → Resumes F (Run A B) [] B (λ b. ([], b)) left
  run_ends left never = record {
    on = λ ts u m. record { first = []; second = ts; left = refl; right = m; tokens = refl };
    back = λ w v x y n o h e. back w v.0 v.1 x y n o h e;
  }
    where
      back : (w : List Token) (vs : List V) (b : W) (x y : List Token) → Run A B w (vs, b) → F (front x) ≡ true → front y ≡ front left → w ++ x ≡ y
          → (ts : List Token) × (u : W) × B ts u × (w ≡ ts) × ◌≡◌ {A = List V × W} (vs, b) ([], u)
      back w [] b x y n o h e = (w, b, run_none A B w b n, refl, refl)
      back w (v ∷ vs) b x y n o h e =
          let m = run_split A B w v vs b n in
          absurd (never m.first v (m.second ++ x) m.left (leads m.second (vs, b) x m.right o) (sym (in_front w m.first m.second x m.tokens) ∙ ap front e ∙ h))

-- one at least is left
pub run_next : {V W : Type 0} (F : Follow) (A : Lang V) (B : Lang W) (left : List Token) → Avoids F B (front left)
    → Resumes F (Run A B) [] (Both A (Run A B)) (first_of A B) left
run_next {V} {W} F A B left never = record { on = λ ts u m. run_join A B ts u.0 u.1.0 u.1.1 m; back = λ w v x y n o h e. back w v.0 v.1 x y n o h e }
  where
    back : (w : List Token) (vs : List V) (b : W) (x y : List Token) → Run A B w (vs, b) → F (front x) ≡ true → front y ≡ front left → w ++ x ≡ y
        → (ts : List Token) × (u : V × (List V × W)) × Both A (Run A B) ts u × (w ≡ ts) × ◌≡◌ {A = List V × W} (vs, b) (first_of A B u)
    back w [] b x y n o h e = absurd (never w b x (run_none A B w b n) o (ap front e ∙ h))
    back w (v ∷ vs) b x y n o h e = (w, (v, (vs, b)), run_split A B w v vs b n, refl, refl)
