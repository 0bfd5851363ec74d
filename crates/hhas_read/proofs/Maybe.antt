-- What a language spells or nothing, and another behind it.
use Rattle.std.proofs.Common.{◌≡◌, List, [], ◌∷◌, ◌++◌, refl, sym, ap, ◌∙◌, append_assoc, Option, Some, None, Err}
use Rattle.hhas_lex.specs.Tokens.{Token, front}
use Rattle.hhbc_repo.specs.Languages.{Lang, Both, Perhaps}
use Rattle.hhas_read.specs.declared.reader.Stop.{Stop}
use Rattle.hhas_read.specs.declared.reader.Stop.TheVariants.{Syntax, NoMemory}
use Rattle.hhas_read.specs.Reading.{Placed, Viable, Taken, Reads, next, any}
use Rattle.hhas_read.proofs.Resuming.{Resumes}
use Rattle.hhas_read.proofs.Joining.{Lawful, all_append}
use Rattle.hhas_read.proofs.Choice.{first_is}

-- words of A begin with a token, and none of B does
module _ {V W : Type 0} (A : Lang V) (B : Lang W) (t : Token) (begins : (w : List Token) (v : V) (x : List Token) → A w v → front (w ++ x) ≡ t)
    (never : (w : List Token) (v : W) (x : List Token) → B w v → front (w ++ x) ≡ t → ⊥) where
  abbrev N : Lang (Option V × W)
  N = Both (Perhaps A) B

  behind_none : (w : List Token) (b : W) (n : N w (None, b)) → w ≡ n.second
  behind_none w b n = n.tokens ∙ ap (λ l. l ++ n.second) n.left

  pub perhaps_none : (left : List Token) → (front left ≡ t → ⊥) → Resumes any N [] B (λ b. (None, b)) left
  perhaps_none left other = record { on = λ ts u m. record { first = []; second = ts; left = refl; right = m; tokens = refl }; back = λ w v x y n o h e. back w v.0 v.1 x y n h e }
    where
      back : (w : List Token) (a : Option V) (b : W) (x y : List Token) → N w (a, b) → front y ≡ front left → w ++ x ≡ y
          → (ts : List Token) × (u : W) × B ts u × (w ≡ ts) × ◌≡◌ {A = Option V × W} (a, b) (None, u)
      back w None b x y n h e = (n.second, b, n.right, behind_none w b n, refl)
      back w (Some a) b x y n h e =
          absurd (other (sym h ∙ ap front (sym e ∙ ap (λ l. l ++ x) n.tokens ∙ append_assoc n.first n.second x) ∙ begins n.first a (n.second ++ x) n.left))

  pub perhaps_some : Lawful any A → (old mid : Placed) (a : V) → (k : Taken any A old mid a) → Resumes any N k.used B (λ b. (Some a, b)) mid.tokens
  perhaps_some law old mid a k = record { on = λ ts u m. record { first = k.used; second = ts; left = k.word; right = m; tokens = refl }; back = λ w v x y n o h e. back w v.0 v.1 x y n e }
    where
      back : (w : List Token) (c : Option V) (b : W) (x y : List Token) → N w (c, b) → w ++ x ≡ k.used ++ y
          → (ts : List Token) × (u : W) × B ts u × (w ≡ k.used ++ ts) × ◌≡◌ {A = Option V × W} (c, b) (Some a, u)
      back w None b x y n e = absurd (never n.second b x n.right (ap front (ap (λ l. l ++ x) (sym (behind_none w b n)) ∙ e) ∙ begins k.used a y k.word))
      back w (Some c) b x y n e =
          let s = law.same n.first k.used (n.second ++ x) y c a n.left k.word refl refl (sym (append_assoc n.first n.second x) ∙ ap (λ l. l ++ x) (sym n.tokens) ∙ e) in
          (n.second, b, n.right, n.tokens ∙ ap (λ l. l ++ n.second) s.0, λ i. (Some (s.1 i), b))

  pub perhaps_stops : Viable B [] → (old new : Placed) (e : Stop) → next old ≡ t → Reads any A old (Err e) new → Reads any N old (Err e) new
  perhaps_stops some old new Syntax is s = record {
    read = s.read;
    past = s.past;
    viable = record {
      more = s.viable.more ++ some.more;
      value = (Some s.viable.value, some.value);
      word = record { first = s.read ++ s.viable.more; second = some.more; left = s.viable.word; right = some.word; tokens = sym (append_assoc s.read s.viable.more some.more) };
      proper = all_append s.viable.more some.more s.viable.proper some.proper;
    };
    dead = λ w v x y n o d. dead w v.0 v.1 x y n d;
  }
    where
      dead : (w : List Token) (c : Option V) (b : W) (x y : List Token) → N w (c, b) → w ++ x ≡ (s.read ++ next new ∷ []) ++ y → ⊥
      dead w None b x y n d =
          let z = first_is old.tokens s.read new.tokens s.past.tokens y in
          never n.second b x n.right (ap front (ap (λ l. l ++ x) (sym (behind_none w b n)) ∙ d ∙ z.1) ∙ is)
      dead w (Some c) b x y n d = s.dead n.first c (n.second ++ x) y n.left refl (sym (append_assoc n.first n.second x) ∙ ap (λ l. l ++ x) (sym n.tokens) ∙ d)
  perhaps_stops some old new NoMemory is s = tt
