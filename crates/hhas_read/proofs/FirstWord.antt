-- Values whose first word says of which form they are.
use Rattle.std.proofs.Common.{◌≡◌, ℕ, List, [], ◌∷◌, ◌++◌, ◌⊎◌, inl, inr, refl, sym, ap, ◌∙◌, subst, true, false, Result, Ok, Err}
use Rattle.std.specs.Str.{bytes_eq}
use Rattle.std.proofs.lemmas.Slice.Eq.{bytes_eq-Decides}
use Rattle.hhas_lex.specs.Tokens.{Token, Word, front}
use Rattle.hhbc_repo.specs.Languages.{Lang, Behind, Means}
use Rattle.hhas_read.specs.declared.reader.Stop.{Stop}
use Rattle.hhas_read.specs.declared.reader.Stop.TheVariants.{Syntax, NoMemory}
use Rattle.hhas_read.specs.Reading.{Placed, Past, Follow, Reads, next}
use Rattle.hhas_read.proofs.Reserved.{never_both}
use Rattle.hhas_read.proofs.Said.{same_word}
use Rattle.hhas_read.proofs.Choice.{first_is}
use Rattle.hhas_read.proofs.Joining.{behind_resumes}
use Rattle.hhas_read.proofs.Resuming.{Resumes, past_none, reads_on, resumes_then, stop_lifts}

module _ {V : Type 0} (word : V → List ℕ) where
  -- the words of a language begin with the word of their value
  abbrev pub Begins : Lang V → Type 0
  Begins N = (w : List Token) (v : V) (x : List Token) → N w v → front (w ++ x) ≡ Word (word v)

  -- each value is made by f, or has another word
  abbrev pub Form : {W : Type 0} → (W → V) → List ℕ → Type 0
  Form {W} f name = (v : V) → ((u : W) × (v ≡ f u)) ⊎ (bytes_eq (word v) name ≡ false)

module _ {V W : Type 0} (N : Lang V) (word : V → List ℕ) (M : Lang W) (f : W → V) (name : List ℕ) (begins : Begins word N) (form : Form word f name)
    (on : (w : List Token) (u : W) → M w u → N w (f u)) (off : (w : List Token) (u : W) → N w (f u) → M w u) where
  -- where the word is next, what N spells is what M spells
  pub form_resumes : (F : Follow) (left : List Token) → front left ≡ Word name → Resumes F N [] M f left
  form_resumes F left is = record { on = on; back = λ w v x y n o h e. back w v x y n h e (form v) }
    where
      back : (w : List Token) (v : V) (x y : List Token) → N w v → front y ≡ front left → w ++ x ≡ y → ((u : W) × (v ≡ f u)) ⊎ (bytes_eq (word v) name ≡ false)
          → (ts : List Token) × (u : W) × M ts u × (w ≡ ts) × (v ≡ f u)
      back w v x y n h e (inl m) = (w, m.0, off w m.0 (subst (N w) m.1 n), refl, m.1)
      back w v x y n h e (inr d) =
          absurd (never_both (sym ((bytes_eq-Decides (word v) name).1 (same_word (word v) name (sym (begins w v x n) ∙ ap front e ∙ h ∙ is))) ∙ d))

  pub form_stop : (F : Follow) (old new : Placed) (e : Stop) (r : Result V Stop) → next old ≡ Word name → r ≡ Err e → Reads F M old (Err e) new → Reads F N old r new
  form_stop F old new e r is stops s = subst (λ r. Reads F N old r new) (sym stops) (stop_lifts F N M old old new [] f e (form_resumes F old.tokens is) (past_none old) s)

-- where the words of B that begin with the next token are words of A, and A's are B's
pub reads_wider : {V : Type 0} (F : Follow) (A B : Lang V) (old new : Placed) (r : Result V Stop) → ((w : List Token) (v : V) → A w v → B w v)
    → ((w : List Token) (v : V) (x y : List Token) → B w v → F (front x) ≡ true → w ++ x ≡ next old ∷ y → A w v)
    → Reads F A old r new → Reads F B old r new
reads_wider F A B old new (Ok v) wide narrow t = record { used = t.used; past = t.past; word = wide t.used v t.word; follows = t.follows }
reads_wider F A B old new (Err Syntax) wide narrow s = record {
  read = s.read;
  past = s.past;
  viable = record { more = s.viable.more; value = s.viable.value; word = wide (s.read ++ s.viable.more) s.viable.value s.viable.word; proper = s.viable.proper };
  dead = λ w v x y n o d. let z = first_is old.tokens s.read new.tokens s.past.tokens y in s.dead w v x y (narrow w v x z.0 n o (d ∙ z.1)) o d;
}
reads_wider F A B old new (Err NoMemory) wide narrow t = tt

-- with the value made
pub means_left : {V W : Type 0} (F : Follow) (N : Lang V) (used : List Token) (M : Lang W) (f : W → V) (left : List Token)
    → Resumes F N used M f left → Resumes F N used (Means f M) (λ v. v) left
means_left F N used M f left r = record {
  on = λ ts v m. subst (N (used ++ ts)) (sym m.is) (r.on ts m.value m.word);
  back = λ w v x y n o h e. let one = r.back w v x y n o h e in (one.0, v, record { value = one.1; word = one.2; is = one.4 }, one.3, refl);
}

-- a form's word was taken, and what stands behind it is read
pub form_behind : {V W : Type 0} (N : Lang V) (word : V → List ℕ) (X : Lang W) (f : W → V) (name : List ℕ) → Begins word N → Form word f name
    → ((w : List Token) (u : W) → Behind (Word name ∷ []) X w u → N w (f u)) → ((w : List Token) (u : W) → N w (f u) → Behind (Word name ∷ []) X w u)
    → (F : Follow) (old mid new : Placed) (r : Result V Stop) → next old ≡ Word name → Past (next old ∷ []) old mid
    → Reads F (Means f X) mid r new → Reads F N old r new
form_behind N word X f name begins form on off F old mid new r is past s =
    let B = Behind (Word name ∷ []) X in
    let taken : Past (Word name ∷ []) old mid = subst (λ t. Past (t ∷ []) old mid) is past in
    let here = form_resumes N word B f name begins form on off F old.tokens is in
    let there = resumes_then F N B X [] (Word name ∷ []) old.tokens mid.tokens f (λ u. u) here (behind_resumes F (Word name ∷ []) X mid.tokens) taken.tokens in
    reads_on F N (Means f X) old mid new (Word name ∷ []) r (means_left F N (Word name ∷ []) X f mid.tokens there) taken s
