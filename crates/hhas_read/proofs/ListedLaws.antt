-- Lists with a mark between their elements, and a token at their end, stand apart from what follows.
use Rattle.std.proofs.Common.{◌≡◌, ℕ, true, ◌&&◌, List, [], ◌∷◌, ◌++◌, refl, sym, ap, ◌∙◌, append_assoc, inl, inr}
use Rattle.hhas_lex.specs.Tokens.{Token, Mark}
use Rattle.hhbc_repo.specs.Languages.{Lang}
use Rattle.hhas_lex.specs.Spelling.{is_proper}
use Rattle.hhas_read.specs.Reading.{any}
use Rattle.hhas_read.proofs.Resuming.{cancel}
use Rattle.hhas_read.proofs.Joining.{Lawful, all_append}
use Rattle.hhas_read.proofs.Listed.{Listed, Left, listed_split}

module _ {V : Type 0} (mark : ℕ) (A : Lang V) (end : Token) where
  abbrev Same : List V → Type 0
  Same vs = (ws : List V) (a b x y : List Token) → Listed mark A end a vs → Listed mark A end b ws → a ++ x ≡ b ++ y → (a ≡ b) × (vs ≡ ws)

  left_same : (end ≡ Mark mark → ⊥) → (vs : List V) → Same vs → (ws : List V) (a b x y : List Token) → Left mark A end a vs → Left mark A end b ws → a ++ x ≡ b ++ y
      → (a ≡ b) × (vs ≡ ws)
  left_same other vs same ws a b x y (inl n) (inl m) e = (n.0 ∙ sym m.0, n.1 ∙ sym m.1)
  left_same other vs same ws a b x y (inl n) (inr m) e = absurd (other (cc (e, ap (λ l. l ++ x) n.0, ap (λ l. l ++ y) m.tokens)))
  left_same other vs same ws a b x y (inr n) (inl m) e = absurd (other (cc (e, ap (λ l. l ++ x) n.tokens, ap (λ l. l ++ y) m.0)))
  left_same other vs same ws a b x y (inr n) (inr m) e =
      let s = same ws n.rest m.rest x y n.word m.word
      (cancel (Mark mark ∷ []) (n.rest ++ x) (m.rest ++ y) (sym (ap (λ l. l ++ x) n.tokens) ∙ e ∙ ap (λ l. l ++ y) m.tokens)) in
      (n.tokens ∙ ap (λ l. Mark mark ∷ l) s.0 ∙ sym m.tokens, s.1)

  listed_same : Lawful any A → (end ≡ Mark mark → ⊥) → (vs : List V) → Same vs
  listed_same law other [] ws a b x y n m e = absurd n.word
  listed_same law other (v ∷ vs) [] a b x y n m e = absurd m.word
  listed_same law other (v ∷ vs) (w ∷ ws) a b x y n m e =
      let p = listed_split mark A end a v vs n in let q = listed_split mark A end b w ws m in
      let joined = sym (append_assoc p.first p.second x) ∙ ap (λ l. l ++ x) (sym p.tokens) ∙ e ∙ ap (λ l. l ++ y) q.tokens ∙ append_assoc q.first q.second y in
      let s = law.same p.first q.first (p.second ++ x) (q.second ++ y) v w p.left q.left refl refl joined in
      let rest : p.second ++ x ≡ q.second ++ y = cancel q.first _ _ (ap (λ l. l ++ (p.second ++ x)) (sym s.0) ∙ joined) in
      let r = left_same other vs (listed_same law other vs) ws p.second q.second x y p.right q.right rest in
      (p.tokens ∙ (λ i. s.0 i ++ r.0 i) ∙ sym q.tokens, λ i. s.1 i ∷ r.1 i)

  pub listed_lawful : Lawful any A → (end ≡ Mark mark → ⊥) → is_proper end ≡ true → Lawful any (Listed mark A end)
  listed_lawful law other stands = record {
    same = λ a b x y v w n m o p e. listed_same law other v w a b x y n m e;
    some = record {
      more = law.some.more ++ (end ∷ []);
      value = law.some.value ∷ [];
      word = record { first = law.some.more; word = law.some.word; tokens = refl };
      proper = all_append law.some.more (end ∷ []) law.some.proper (ap (λ c. c && true) stands);
    };
  }
