-- What a token begins, or nothing.
use Rattle.std.proofs.Common.{◌≡◌, true, false, List, [], ◌∷◌, ◌++◌, ◌⊎◌, inl, inr, refl, sym, ap, ◌∙◌, subst, Option, Some, None, Result, Err}
use Rattle.hhas_lex.specs.Tokens.{Token, front}
use Rattle.hhbc_repo.specs.Languages.{Lang, Behind, Perhaps, Says}
use Rattle.hhas_read.specs.declared.reader.Stop.{Stop}
use Rattle.hhas_read.specs.Reading.{Placed, Past, Follow, Taken, Reads, any, next}
use Rattle.hhas_read.proofs.Following.{ends_on, stops_on}
use Rattle.hhas_read.proofs.Resuming.{Resumes, cancel}
use Rattle.hhas_read.proofs.Joining.{Lawful}
use Rattle.hhas_read.proofs.Reserved.{never_both}

-- behind a token stands what A spells, for its value through f; or nothing stands there, for one value
pub record Optional {V W : Type 0} (O : Lang V) (t : Token) (A : Lang W) (f : W → V) (none : V) : Type 0 where
  pub some : (w : List Token) (u : W) → Behind (t ∷ []) A w u → O w (f u)
  pub nothing : O [] none
  pub only : (w : List Token) (v : V) → O w v → ((u : W) × Behind (t ∷ []) A w u × (v ≡ f u)) ⊎ ((w ≡ []) × (v ≡ none))

-- the token isn't next
pub absent : {V W : Type 0} (F : Follow) (O : Lang V) (t : Token) (A : Lang W) (f : W → V) (none : V) → Optional O t A f none
    → (left : List Token) → (front left ≡ t → ⊥) → Resumes F O [] (Says [] none) (λ v. v) left
absent {V} {W} F O t A f none o left other = record {
  on = λ ts u m. subst (λ z. O z u) (sym m.0) (subst (O []) (sym m.1) o.nothing);
  back = λ w v x y n g h e. back w v x y h e (o.only w v n);
}
  where
    back : (w : List Token) (v : V) (x y : List Token) → front y ≡ front left → w ++ x ≡ y → ((u : W) × Behind (t ∷ []) A w u × (v ≡ f u)) ⊎ ((w ≡ []) × (v ≡ none))
        → (ts : List Token) × (u : V) × Says [] none ts u × (w ≡ ts) × (v ≡ u)
    back w v x y h e (inl b) = absurd (other (sym h ∙ ap front (sym e ∙ ap (λ l. l ++ x) b.1.tokens)))
    back w v x y h e (inr b) = (w, v, b, refl, refl)

-- it is, and was taken
pub present : {V W : Type 0} (F : Follow) (O : Lang V) (t : Token) (A : Lang W) (f : W → V) (none : V) → Optional O t A f none → F t ≡ false
    → (left : List Token) → Resumes F O (t ∷ []) A f left
present {V} {W} F O t A f none o never left = record {
  on = λ ts u m. o.some (t ∷ ts) u (record { rest = ts; word = m; tokens = refl });
  back = λ w v x y n g h e. back w v x y g e (o.only w v n);
}
  where
    back : (w : List Token) (v : V) (x y : List Token) → F (front x) ≡ true → w ++ x ≡ t ∷ y → ((u : W) × Behind (t ∷ []) A w u × (v ≡ f u)) ⊎ ((w ≡ []) × (v ≡ none))
        → (ts : List Token) × (u : W) × A ts u × (w ≡ t ∷ ts) × (v ≡ f u)
    back w v x y g e (inl b) = (b.1.rest, b.0, b.1.word, b.1.tokens, b.2)
    back w v x y g e (inr b) = absurd (never_both (sym g ∙ ap F (ap front (ap (λ l. l ++ x) (sym b.0) ∙ e)) ∙ never))

pub optional_lawful : {V W : Type 0} (F G : Follow) (O : Lang V) (t : Token) (A : Lang W) (f : W → V) (none : V) → Optional O t A f none → F t ≡ false
    → ((s : Token) → F s ≡ true → G s ≡ true) → Lawful G A → Lawful F O
optional_lawful {V} {W} F G O t A f none o never wide law = record {
  same = λ a b x y v w n m p q e. same a b x y v w p q e (o.only a v n) (o.only b w m);
  some = record { more = []; value = none; word = o.nothing; proper = refl };
}
  where
    begins : (a b x y : List Token) (u : W) → Behind (t ∷ []) A a u → b ≡ [] → a ++ x ≡ b ++ y → front y ≡ t
    begins a b x y u n z e = ap front (ap (λ l. l ++ y) (sym z) ∙ sym e ∙ ap (λ l. l ++ x) n.tokens)

    same : (a b x y : List Token) (v w : V) → F (front x) ≡ true → F (front y) ≡ true → a ++ x ≡ b ++ y
        → ((u : W) × Behind (t ∷ []) A a u × (v ≡ f u)) ⊎ ((a ≡ []) × (v ≡ none)) → ((u : W) × Behind (t ∷ []) A b u × (w ≡ f u)) ⊎ ((b ≡ []) × (w ≡ none))
        → (a ≡ b) × (v ≡ w)
    same a b x y v w p q e (inl n) (inl m) =
        let one = law.same n.1.rest m.1.rest x y n.0 m.0 n.1.word m.1.word (wide (front x) p) (wide (front y) q)
        (cancel (t ∷ []) (n.1.rest ++ x) (m.1.rest ++ y) (sym (ap (λ l. l ++ x) n.1.tokens) ∙ e ∙ ap (λ l. l ++ y) m.1.tokens)) in
        (n.1.tokens ∙ ap (λ l. t ∷ l) one.0 ∙ sym m.1.tokens, n.2 ∙ ap f one.1 ∙ sym m.2)
    same a b x y v w p q e (inl n) (inr m) = absurd (never_both (sym q ∙ ap F (begins a b x y n.0 n.1 m.0 e) ∙ never))
    same a b x y v w p q e (inr n) (inl m) = absurd (never_both (sym p ∙ ap F (begins b a y x m.0 m.1 n.0 (sym e)) ∙ never))
    same a b x y v w p q e (inr n) (inr m) = (n.0 ∙ sym m.0, n.1 ∙ sym m.1)

pub perhaps : {W : Type 0} (t : Token) (A : Lang W) → Optional (Perhaps (Behind (t ∷ []) A)) t A Some None
perhaps {W} t A = record { some = λ w u b. b; nothing = refl; only = only }
  where
    only : (w : List Token) (v : Option W) → Perhaps (Behind (t ∷ []) A) w v → ((u : W) × Behind (t ∷ []) A w u × (v ≡ Some u)) ⊎ ((w ≡ []) × (v ≡ None))
    only w None n = inr (n, refl)
    only w (Some u) n = inl (u, n, refl)

-- ---- read from its front

pub optional_ends : {V W : Type 0} (F : Follow) (O : Lang V) (t : Token) (A : Lang W) (f : W → V) (none : V) → Optional O t A f none → F t ≡ false → Lawful any A
    → (old mid new : Placed) (u : W) (r : Result V Stop) → next old ≡ t → Past (next old ∷ []) old mid → Taken any A mid new u → Reads F (Says [] (f u)) new r new
    → Reads F O old r new
optional_ends F O t A f none o never law old mid new u r is past taken s =
    ends_on F O A old mid new (t ∷ []) f u r law (present F O t A f none o never mid.tokens) (subst (λ z. Past (z ∷ []) old mid) is past) taken s

pub optional_stops : {V W : Type 0} (F : Follow) (O : Lang V) (t : Token) (A : Lang W) (f : W → V) (none : V) → Optional O t A f none → F t ≡ false
    → (old mid new : Placed) (e : Stop) → next old ≡ t → Past (next old ∷ []) old mid → Reads any A mid (Err e) new → Reads F O old (Err e) new
optional_stops F O t A f none o never old mid new e is past s =
    stops_on F O A old mid new (t ∷ []) f e (present F O t A f none o never mid.tokens) (subst (λ z. Past (z ∷ []) old mid) is past) s
