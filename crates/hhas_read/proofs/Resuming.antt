-- After some tokens of a word, what is left of the word is a word of another language.
use Rattle.std.proofs.Common.{◌≡◌, true, List, [], ◌∷◌, ◌++◌, length, drop, refl, sym, ap, ◌∙◌, append_assoc, subst, Result, Ok, Err}
use Rattle.hhas_lex.specs.Tokens.{Token, front}
use Rattle.hhbc_repo.specs.Languages.{Lang}
use Rattle.hhas_read.specs.declared.reader.Stop.{Stop}
use Rattle.hhas_read.specs.declared.reader.Stop.TheVariants.{Syntax, NoMemory}
use Rattle.hhas_read.specs.Reading.{Placed, Past, Follow, StuckAt, Taken, Reads, next}
use Rattle.std.proofs.lemmas.List.{length-append, drop-drop}

pub cancel : {A : Type 0} (a x y : List A) → a ++ x ≡ a ++ y → x ≡ y
cancel [] x y e = e
cancel (t ∷ a) x y e = cancel a x y (cc)

-- ---- tokens that were taken

pub past_none : (p : Placed) → Past [] p p
past_none p = record { tokens = refl; places = refl }

pub past_on : {a b : List Token} {p q r : Placed} → Past a p q → Past b q r → Past (a ++ b) p r
past_on {a} {b} {p} {q} {r} s t = record {
  tokens = s.tokens ∙ ap (λ l. a ++ l) t.tokens ∙ sym (append_assoc a b r.tokens);
  places = t.places ∙ ap (λ l. drop (length b) l) s.places ∙ drop-drop (length b) (length a) p.places
      ∙ ap (λ n. drop n p.places) (sym (length-append a b));
}

-- what stands in front of what is left stands in front of all that begins so
pub front_same : (b l m y : List Token) → l ≡ b ++ m → front y ≡ front m → front (b ++ y) ≡ front l
front_same [] l m y e h = h ∙ ap front (sym e)
front_same (t ∷ b) l m y e h = ap front (sym e)

front_dead : (read l m y : List Token) → l ≡ read ++ m → front ((read ++ front m ∷ []) ++ y) ≡ front l
front_dead [] l m y e = ap front (sym e)
front_dead (t ∷ read) l m y e = ap front (sym e)

-- ---- what is left of a language

-- what stands after `used` in the words of N that begin with it, where `left` is next, are the words of M, the value of each through f
pub record Resumes {V W : Type 0} (F : Follow) (N : Lang V) (used : List Token) (M : Lang W) (f : W → V) (left : List Token) : Type 0 where
  pub on : (ts : List Token) (u : W) → M ts u → N (used ++ ts) (f u)
  pub back : (w : List Token) (v : V) (x y : List Token) → N w v → F (front x) ≡ true → front y ≡ front left → w ++ x ≡ used ++ y
      → (ts : List Token) × (u : W) × M ts u × (w ≡ used ++ ts) × (v ≡ f u)

pub resumes_start : {V : Type 0} (F : Follow) (N : Lang V) (left : List Token) → Resumes F N [] N (λ v. v) left
resumes_start F N left = record { on = λ ts u m. m; back = λ w v x y n o h e. (w, v, n, refl, refl) }

pub resumes_same : {V W : Type 0} (F : Follow) (N : Lang V) (M : Lang W) (a left : List Token) (f g : W → V) → ((u : W) → f u ≡ g u)
    → Resumes F N a M f left → Resumes F N a M g left
resumes_same F N M a left f g same r = record {
  on = λ ts u m. subst (N (a ++ ts)) (same u) (r.on ts u m);
  back = λ w v x y n o h e. let one = r.back w v x y n o h e in (one.0, one.1, one.2, one.3, one.4 ∙ same one.1);
}

pub resumes_then : {V W U : Type 0} (F : Follow) (N : Lang V) (M : Lang W) (P : Lang U) (a b l m : List Token) (f : W → V) (g : U → W)
    → Resumes F N a M f l → Resumes F M b P g m → l ≡ b ++ m → Resumes F N (a ++ b) P (λ u. f (g u)) m
resumes_then F N M P a b l m f g r s split = record {
  on = λ ts u p. subst (λ l. N l (f (g u))) (sym (append_assoc a b ts)) (r.on (b ++ ts) (g u) (s.on ts u p));
  back = λ w v x y n o h e.
      let one = r.back w v x (b ++ y) n o (front_same b l m y split h) (e ∙ append_assoc a b y) in
      let rest : one.0 ++ x ≡ b ++ y = cancel a _ _ (sym (append_assoc a one.0 x) ∙ ap (λ l. l ++ x) (sym one.3) ∙ e ∙ append_assoc a b y) in
      let two = s.back one.0 one.1 x y one.2 o h rest in
      (two.0, two.1, two.2, one.3 ∙ ap (λ l. a ++ l) two.3 ∙ sym (append_assoc a b two.0), one.4 ∙ ap f two.4);
}

-- what a word of what is left comes to, in the whole
pub taken_lifts : {V W : Type 0} (F : Follow) (N : Lang V) (M : Lang W) (old mid new : Placed) (used : List Token) (f : W → V) (u : W)
    → Resumes F N used M f mid.tokens → Past used old mid → Taken F M mid new u → Taken F N old new (f u)
taken_lifts F N M old mid new used f u r p t = record {
  used = used ++ t.used;
  past = past_on p t.past;
  word = r.on t.used u t.word;
  follows = t.follows;
}

regroup : (a b c y : List Token) → ((a ++ b) ++ c) ++ y ≡ a ++ ((b ++ c) ++ y)
regroup a b c y = simp append_assoc

pub stuck_lifts : {V W : Type 0} (F : Follow) (N : Lang V) (M : Lang W) (old mid new : Placed) (used : List Token) (f : W → V)
    → Resumes F N used M f mid.tokens → Past used old mid → StuckAt F M mid new → StuckAt F N old new
stuck_lifts F N M old mid new used f r p s = record {
  read = used ++ s.read;
  past = past_on p s.past;
  viable = record {
    more = s.viable.more;
    value = f s.viable.value;
    word = subst (λ l. N l (f s.viable.value)) (sym (append_assoc used s.read s.viable.more)) (r.on (s.read ++ s.viable.more) s.viable.value s.viable.word);
    proper = s.viable.proper;
  };
  dead = λ w v x y n o d.
      let far = regroup used s.read (next new ∷ []) y in
      let one = r.back w v x ((s.read ++ next new ∷ []) ++ y) n o (front_dead s.read mid.tokens new.tokens y s.past.tokens) (d ∙ far) in
      s.dead one.0 one.1 x y one.2 o (cancel used _ _ (sym (append_assoc used one.0 x) ∙ ap (λ l. l ++ x) (sym one.3) ∙ d ∙ far));
}

pub stop_lifts : {V W : Type 0} (F : Follow) (N : Lang V) (M : Lang W) (old mid new : Placed) (used : List Token) (f : W → V) (e : Stop)
    → Resumes F N used M f mid.tokens → Past used old mid → Reads F M mid (Err e) new → Reads F N old (Err e) new
stop_lifts F N M old mid new used f Syntax r p s = stuck_lifts F N M old mid new used f r p s
stop_lifts F N M old mid new used f NoMemory r p s = tt

-- the same, where the value is that of the whole
pub reads_on : {V : Type 0} (F : Follow) (N M : Lang V) (old mid new : Placed) (used : List Token) (r : Result V Stop)
    → Resumes F N used M (λ v. v) mid.tokens → Past used old mid → Reads F M mid r new → Reads F N old r new
reads_on F N M old mid new used (Ok v) h p t = taken_lifts F N M old mid new used (λ v. v) v h p t
reads_on F N M old mid new used (Err e) h p s = stop_lifts F N M old mid new used (λ v. v) e h p s
