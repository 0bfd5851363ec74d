-- Words that aren't free of fronts: what may follow tells where they end.
use Rattle.std.proofs.Common.{◌≡◌, true, false, List, [], ◌∷◌, ◌++◌, refl, sym, ap, ◌∙◌, subst, Result, Err, inl, inr}
use Rattle.hhas_lex.specs.Tokens.{Token, front}
use Rattle.hhbc_repo.specs.Languages.{Lang, Says, Behind, Either, Means}
use Rattle.hhas_read.specs.declared.reader.Stop.{Stop}
use Rattle.hhas_read.specs.declared.reader.Stop.TheVariants.{Syntax, NoMemory}
use Rattle.hhas_read.specs.Reading.{Placed, Past, Follow, StuckAt, Taken, Reads, next, any}
use Rattle.hhas_read.proofs.Resuming.{Resumes, past_none, past_on, reads_on, resumes_then, stop_lifts}
use Rattle.hhas_read.proofs.Joining.{Lawful}
use Rattle.hhas_read.proofs.Reserved.{never_both}

-- what is dead where anything may follow is dead
pub stop_narrows : {V : Type 0} (F : Follow) (N : Lang V) (old new : Placed) (e : Stop) → Reads any N old (Err e) new → Reads F N old (Err e) new
stop_narrows F N old new Syntax s = record { read = s.read; past = s.past; viable = s.viable; dead = λ w v x y n o d. s.dead w v x y n refl d }
stop_narrows F N old new NoMemory s = tt

-- nothing is left behind a whole word
whole_resumes : {V : Type 0} (F : Follow) (N : Lang V) (old mid : Placed) (v : V) → Lawful any N → (t : Taken any N old mid v)
    → Resumes F N t.used (Says [] v) (λ u. u) mid.tokens
whole_resumes F N old mid v law t = record {
  on = λ ts u m. subst (λ z. N z u) (sym (ap (λ l. t.used ++ l) m.0)) (subst (λ z. N (t.used ++ []) z) (sym m.1) (subst (λ z. N z v) (sym (nothing t.used)) t.word));
  back = λ w u x y n o h e. let s = law.same w t.used x y u v n t.word refl refl e in ([], u, (refl, s.1), s.0 ∙ sym (nothing t.used), refl);
}
  where
    nothing : {A : Type 0} (l : List A) → l ++ [] ≡ l
    nothing [] = refl
    nothing (a ∷ l) = ap (λ z. a ∷ z) (nothing l)

says_value : {V W : Type 0} (F : Follow) (N : Lang V) (b left : List Token) (f : W → V) (u : W) → Resumes F N b (Says [] u) f left → Resumes F N b (Says [] (f u)) (λ v. v) left
says_value F N b left f u r = record {
  on = λ ts v m. subst (λ z. N (b ++ ts) z) (sym m.1) (r.on ts u (m.0, refl));
  back = λ w v x y n o h e. let one = r.back w v x y n o h e in (one.0, v, (one.2.0, one.4 ∙ ap f one.2.1), one.3, refl);
}

-- a whole word of what was left, and nothing more
pub ends_on : {V W : Type 0} (F : Follow) (N : Lang V) (M : Lang W) (old mid new : Placed) (a : List Token) (f : W → V) (u : W) (r : Result V Stop)
    → Lawful any M → Resumes F N a M f mid.tokens → Past a old mid → Taken any M mid new u → Reads F (Says [] (f u)) new r new → Reads F N old r new
ends_on F N M old mid new a f u r law on p t s =
    let far : Resumes F N (a ++ t.used) (Says [] u) f new.tokens =
    resumes_then F N M (Says [] u) a t.used mid.tokens new.tokens f (λ v. v) on (whole_resumes F M mid new u law t) t.past.tokens in
    reads_on F N (Says [] (f u)) old new new (a ++ t.used) r (says_value F N (a ++ t.used) new.tokens f u far) (past_on p t.past) s

-- what was left isn't there
pub stops_on : {V W : Type 0} (F : Follow) (N : Lang V) (M : Lang W) (old mid new : Placed) (a : List Token) (f : W → V) (e : Stop)
    → Resumes F N a M f mid.tokens → Past a old mid → Reads any M mid (Err e) new → Reads F N old (Err e) new
stops_on F N M old mid new a f e on p s = stop_lifts F N M old mid new a f e on p (stop_narrows F M mid new e s)

-- nothing more is there, and the next token doesn't follow
pub unended : {V : Type 0} (F : Follow) (v : V) (p : Placed) → F (next p) ≡ false → StuckAt F (Says [] v) p p
unended F v p f = record {
  read = [];
  past = past_none p;
  viable = record { more = []; value = v; word = (refl, refl); proper = refl };
  dead = λ w u x y n o d. never_both (sym o ∙ ap F (ap front (sym (ap (λ l. l ++ x) n.0) ∙ d)) ∙ f);
}

-- ---- choices by the next token

-- no word, followed as it may be, has the token at its front
abbrev pub Avoids : {V : Type 0} → Follow → Lang V → Token → Type 0
Avoids {V} F A t = (w : List Token) (v : V) (x : List Token) → A w v → F (front x) ≡ true → front (w ++ x) ≡ t → ⊥

pub nothing_avoids : {V : Type 0} (F : Follow) (v : V) (t : Token) → F t ≡ false → Avoids F (Says [] v) t
nothing_avoids F v t f w u x n o e = never_both (sym o ∙ ap F (ap front (sym (ap (λ l. l ++ x) n.0)) ∙ e) ∙ f)

pub behind_avoids : {V : Type 0} (F : Follow) (first : Token) (words : List Token) (A : Lang V) (t : Token) → (t ≡ first → ⊥) → Avoids F (Behind (first ∷ words) A) t
behind_avoids F first words A t other w u x n o e = other (sym e ∙ ap front (ap (λ l. l ++ x) n.tokens))

pub either_avoids : {V : Type 0} (F : Follow) (A B : Lang V) (t : Token) → Avoids F A t → Avoids F B t → Avoids F (Either A B) t
either_avoids F A B t a b w u x n o e = elim n [
  | inl l ↦ a w u x l o e
  | inr r ↦ b w u x r o e
]

pub left_resumes : {V : Type 0} (F : Follow) (A B : Lang V) (left : List Token) → Avoids F B (front left) → Resumes F (Either A B) [] A (λ v. v) left
left_resumes F A B left never = record {
  on = λ ts u m. inl m;
  back = λ w v x y n o h e. elim n [
    | inl l ↦ (w, v, l, refl, refl)
    | inr r ↦ absurd (never w v x r o (ap front e ∙ h))
  ];
}

-- the token that the right one begins with was taken
pub right_resumes : {V W : Type 0} (F : Follow) (A : Lang V) (t : Token) (f : W → V) (B : Lang W) (left : List Token) → Avoids F A t
    → Resumes F (Either A (Behind (t ∷ []) (Means f B))) (t ∷ []) B f left
right_resumes F A t f B left never = record {
  on = λ ts u m. inr (record { rest = ts; word = record { value = u; word = m; is = refl }; tokens = refl });
  back = λ w v x y n o h e. elim n [
    | inl l ↦ absurd (never w v x l o (ap front e))
    | inr r ↦ (r.rest, r.word.value, r.word.word, r.tokens, r.word.is)
  ];
}
