-- What is left of the languages that the grammar is made of.
use Rattle.std.proofs.Common.{◌≡◌, true, ◌&&◌, List, [], ◌∷◌, ◌++◌, refl, sym, ap, ◌∙◌, append_assoc, subst, Err}
use Rattle.std.specs.List.{list_all}
use Rattle.std.proofs.lemmas.List.Folds.{list_all-append}
use Rattle.hhas_lex.specs.Tokens.{Token, front}
use Rattle.hhas_lex.specs.Spelling.{is_proper}
use Rattle.hhbc_repo.specs.Languages.{Lang, Says, Behind, Ended, Both, Means}
use Rattle.hhas_read.specs.declared.reader.Stop.{Stop}
use Rattle.hhas_read.specs.declared.reader.Stop.TheVariants.{Syntax, NoMemory}
use Rattle.hhas_read.specs.Reading.{Placed, Follow, Viable, StuckAt, Taken, Reads, next}
use Rattle.hhas_read.proofs.Resuming.{Resumes, cancel, past_none}

pub all_append : (a b : List Token) → list_all is_proper a ≡ true → list_all is_proper b ≡ true → list_all is_proper (a ++ b) ≡ true
all_append a b e f = list_all-append is_proper a b ∙ ap (λ c. c && list_all is_proper b) e ∙ f

-- what stands behind a word of B may follow a word of A, and so may what B's words begin with
abbrev pub LeadsOn : {W : Type 0} → Follow → Lang W → Follow → Type 0
LeadsOn {W} F B G = (b : List Token) (v : W) (x : List Token) → B b v → F (front x) ≡ true → G (front (b ++ x)) ≡ true

-- each word, followed as it may be, stands apart from what follows, and has one value
pub record Lawful {V : Type 0} (F : Follow) (A : Lang V) : Type 0 where
  pub same : (a b x y : List Token) (v w : V) → A a v → A b w → F (front x) ≡ true → F (front y) ≡ true → a ++ x ≡ b ++ y → (a ≡ b) × (v ≡ w)
  pub some : Viable A []

-- ---- one after the other

module _ {V W : Type 0} (F G : Follow) (A : Lang V) (B : Lang W) (leads : LeadsOn F B G) where
  pub both_resumes : (old mid : Placed) (a : V) → Lawful G A → (t : Taken G A old mid a) → Resumes F (Both A B) t.used B (λ b. (a, b)) mid.tokens
  both_resumes old mid a law t = record {
    on = λ ts u b. record { first = t.used; second = ts; left = t.word; right = b; tokens = refl };
    back = λ w v x y n o h e.
        let s = law.same n.first t.used (n.second ++ x) y v.0 a n.left t.word (leads n.second v.1 x n.right o) (ap G h ∙ t.follows)
        (sym (append_assoc n.first n.second x) ∙ ap (λ l. l ++ x) (sym n.tokens) ∙ e) in
        (n.second, v.1, n.right, n.tokens ∙ ap (λ l. l ++ n.second) s.0, λ i. (s.1 i, v.1));
  }

  pub both_stuck : (old new : Placed) → Viable B [] → StuckAt G A old new → StuckAt F (Both A B) old new
  both_stuck old new some s = record {
    read = s.read;
    past = s.past;
    viable = record {
      more = s.viable.more ++ some.more;
      value = (s.viable.value, some.value);
      word = record { first = s.read ++ s.viable.more; second = some.more; left = s.viable.word; right = some.word; tokens = sym (append_assoc s.read s.viable.more some.more) };
      proper = all_append s.viable.more some.more s.viable.proper some.proper;
    };
    dead = λ w v x y n o e. s.dead n.first v.0 (n.second ++ x) y n.left (leads n.second v.1 x n.right o)
        (sym (append_assoc n.first n.second x) ∙ ap (λ l. l ++ x) (sym n.tokens) ∙ e);
  }

pub both_stop : {V W : Type 0} (F G : Follow) (A : Lang V) (B : Lang W) → LeadsOn F B G → (old new : Placed) (e : Stop) → Viable B []
    → Reads G A old (Err e) new → Reads F (Both A B) old (Err e) new
both_stop F G A B leads old new Syntax some s = both_stuck F G A B leads old new some s
both_stop F G A B leads old new NoMemory some s = tt

pub both_some : {V W : Type 0} (A : Lang V) (B : Lang W) → Viable A [] → Viable B [] → Viable (Both A B) []
both_some A B a b = record {
  more = a.more ++ b.more;
  value = (a.value, b.value);
  word = record { first = a.more; second = b.more; left = a.word; right = b.word; tokens = refl };
  proper = all_append a.more b.more a.proper b.proper;
}

pub both_lawful : {V W : Type 0} (F G : Follow) (A : Lang V) (B : Lang W) → LeadsOn F B G → Lawful G A → Lawful F B → Lawful F (Both A B)
both_lawful F G A B leads law laws = record {
  same = λ a b x y v w s t o p e.
      let joined = sym (append_assoc s.first s.second x) ∙ ap (λ l. l ++ x) (sym s.tokens) ∙ e ∙ ap (λ l. l ++ y) t.tokens ∙ append_assoc t.first t.second y in
      let one = law.same s.first t.first (s.second ++ x) (t.second ++ y) v.0 w.0 s.left t.left (leads s.second v.1 x s.right o) (leads t.second w.1 y t.right p) joined in
      let rest : s.second ++ x ≡ t.second ++ y = cancel t.first _ _ (ap (λ l. l ++ (s.second ++ x)) (sym one.0) ∙ joined) in
      let two = laws.same s.second t.second x y v.1 w.1 s.right t.right o p rest in
      (s.tokens ∙ (λ i. one.0 i ++ two.0 i) ∙ sym t.tokens, λ i. (one.1 i, two.1 i));
  some = both_some A B law.some laws.some;
}

-- ---- behind fixed tokens

pub behind_resumes : {V : Type 0} (F : Follow) (words : List Token) (A : Lang V) (left : List Token) → Resumes F (Behind words A) words A (λ v. v) left
behind_resumes F words A left = record {
  on = λ ts u m. record { rest = ts; word = m; tokens = refl };
  back = λ w v x y n o h e. (n.rest, v, n.word, n.tokens, refl);
}

-- behind the first of them
pub behind_first : {V : Type 0} (F : Follow) (t : Token) (words : List Token) (A : Lang V) (left : List Token)
    → Resumes F (Behind (t ∷ words) A) (t ∷ []) (Behind words A) (λ v. v) left
behind_first F t words A left = record {
  on = λ ts u m. record { rest = m.rest; word = m.word; tokens = ap (λ l. t ∷ l) m.tokens };
  back = λ w v x y n o h e. (words ++ n.rest, v, record { rest = n.rest; word = n.word; tokens = refl }, n.tokens, refl);
}

pub behind_none : {V : Type 0} (F : Follow) (A : Lang V) (left : List Token) → Resumes F (Behind [] A) [] A (λ v. v) left
behind_none F A left = behind_resumes F [] A left

pub behind_some : {V : Type 0} (words : List Token) (A : Lang V) → list_all is_proper words ≡ true → Viable A [] → Viable (Behind words A) []
behind_some words A e s = record {
  more = words ++ s.more;
  value = s.value;
  word = record { rest = s.more; word = s.word; tokens = refl };
  proper = all_append words s.more e s.proper;
}

-- another token than the first
pub behind_stuck : {V : Type 0} (F : Follow) (t : Token) (words : List Token) (A : Lang V) (old : Placed)
    → list_all is_proper (t ∷ words) ≡ true → Viable A [] → (next old ≡ t → ⊥) → StuckAt F (Behind (t ∷ words) A) old old
behind_stuck F t words A old e s other = record {
  read = [];
  past = past_none old;
  viable = let b = behind_some (t ∷ words) A e s in b;
  dead = λ w v x y n o d. other (sym (cc (d, ap (λ l. l ++ x) n.tokens)));
}

pub behind_lawful : {V : Type 0} (F : Follow) (words : List Token) (A : Lang V) → list_all is_proper words ≡ true → Lawful F A → Lawful F (Behind words A)
behind_lawful F words A e law = record {
  same = λ a b x y v w s t o p d.
      let one = law.same s.rest t.rest x y v w s.word t.word o p (cancel words _ _ (sym (append_assoc words s.rest x) ∙ ap (λ l. l ++ x) (sym s.tokens) ∙ d
      ∙ ap (λ l. l ++ y) t.tokens ∙ append_assoc words t.rest y)) in
      (s.tokens ∙ ap (λ l. words ++ l) one.0 ∙ sym t.tokens, one.1);
  some = behind_some words A e law.some;
}

-- ---- with another value

pub means_resumes : {V W : Type 0} (F : Follow) (f : V → W) (A : Lang V) (left : List Token) → Resumes F (Means f A) [] A f left
means_resumes F f A left = record {
  on = λ ts u m. record { value = u; word = m; is = refl };
  back = λ w v x y n o h e. (w, n.value, n.word, refl, n.is);
}

-- ---- fixed tokens at the end

pub ended_resumes : {V : Type 0} (F G : Follow) (A : Lang V) (t : Token) (words : List Token) → G t ≡ true → (old mid : Placed) (a : V) → Lawful G A
    → (k : Taken G A old mid a) → Resumes F (Ended A (t ∷ words)) k.used (Says (t ∷ words) a) (λ v. v) mid.tokens
ended_resumes F G A t words g old mid a law k = record {
  on = λ ts u m. record { first = k.used; word = subst (A k.used) (sym m.1) k.word; tokens = ap (λ l. k.used ++ l) m.0 };
  back = λ w v x y n o h e.
      let s = law.same n.first k.used ((t ∷ words) ++ x) y v a n.word k.word g (ap G h ∙ k.follows)
      (sym (append_assoc n.first (t ∷ words) x) ∙ ap (λ l. l ++ x) (sym n.tokens) ∙ e) in
      (t ∷ words, v, (refl, s.1), n.tokens ∙ ap (λ l. l ++ (t ∷ words)) s.0, refl);
}

pub ended_stuck : {V : Type 0} (F G : Follow) (A : Lang V) (t : Token) (words : List Token) → G t ≡ true → list_all is_proper (t ∷ words) ≡ true
    → (old new : Placed) → StuckAt G A old new → StuckAt F (Ended A (t ∷ words)) old new
ended_stuck F G A t words g e old new s = record {
  read = s.read;
  past = s.past;
  viable = record {
    more = s.viable.more ++ (t ∷ words);
    value = s.viable.value;
    word = record { first = s.read ++ s.viable.more; word = s.viable.word; tokens = sym (append_assoc s.read s.viable.more (t ∷ words)) };
    proper = all_append s.viable.more (t ∷ words) s.viable.proper e;
  };
  dead = λ w v x y n o d. s.dead n.first v ((t ∷ words) ++ x) y n.word g
      (sym (append_assoc n.first (t ∷ words) x) ∙ ap (λ l. l ++ x) (sym n.tokens) ∙ d);
}

pub ended_lawful : {V : Type 0} (F G : Follow) (A : Lang V) (t : Token) (words : List Token) → G t ≡ true → list_all is_proper (t ∷ words) ≡ true
    → Lawful G A → Lawful F (Ended A (t ∷ words))
ended_lawful F G A t words g e law = record {
  same = λ a b x y v w s k o p d.
      let one = law.same s.first k.first ((t ∷ words) ++ x) ((t ∷ words) ++ y) v w s.word k.word g g
      (sym (append_assoc s.first (t ∷ words) x) ∙ ap (λ l. l ++ x) (sym s.tokens) ∙ d ∙ ap (λ l. l ++ y) k.tokens ∙ append_assoc k.first (t ∷ words) y) in
      (s.tokens ∙ ap (λ l. l ++ (t ∷ words)) one.0 ∙ sym k.tokens, one.1);
  some = record {
    more = law.some.more ++ (t ∷ words);
    value = law.some.value;
    word = record { first = law.some.more; word = law.some.word; tokens = refl };
    proper = all_append law.some.more (t ∷ words) law.some.proper e;
  };
}

-- ---- fixed tokens with a value

pub says_taken : {V : Type 0} (F : Follow) (v : V) (p : Placed) → F (next p) ≡ true → Taken F (Says [] v) p p v
says_taken F v p f = record { used = []; past = past_none p; word = (refl, refl); follows = f }

pub says_first : {V : Type 0} (F : Follow) (t : Token) (words : List Token) (v : V) (left : List Token)
    → Resumes F (Says (t ∷ words) v) (t ∷ []) (Says words v) (λ u. u) left
says_first F t words v left = record {
  on = λ ts u m. (ap (λ l. t ∷ l) m.0, m.1);
  back = λ w u x y n o h e. (words, u, (refl, n.1), n.0, refl);
}

pub says_stuck : {V : Type 0} (F : Follow) (t : Token) (words : List Token) (v : V) (old : Placed)
    → list_all is_proper (t ∷ words) ≡ true → (next old ≡ t → ⊥) → StuckAt F (Says (t ∷ words) v) old old
says_stuck F t words v old e other = record {
  read = [];
  past = past_none old;
  viable = record { more = t ∷ words; value = v; word = (refl, refl); proper = e };
  dead = λ w u x y n o d. other (sym (cc (d, ap (λ l. l ++ x) n.0)));
}

-- ---- one of two

-- no word begins with the token
abbrev pub NeverBegins : {V : Type 0} → Follow → Lang V → Token → Type 0
NeverBegins {V} F A t = (w : List Token) (v : V) (x y : List Token) → A w v → F (front x) ≡ true → w ++ x ≡ t ∷ y → ⊥
