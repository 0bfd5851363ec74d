-- What a language spells or nothing, and another behind it, stand apart from what follows, and have one value.
use Rattle.std.proofs.Common.{◌≡◌, List, [], ◌++◌, refl, sym, ap, ◌∙◌, append_assoc, Option, Some, None}
use Rattle.hhas_lex.specs.Tokens.{Token, front}
use Rattle.hhbc_repo.specs.Languages.{Lang, Both, Perhaps}
use Rattle.hhas_read.specs.Reading.{any}
use Rattle.hhas_read.proofs.Joining.{Lawful, both_lawful}

-- words of A begin with a token, and none of B does
module _ {V W : Type 0} (A : Lang V) (B : Lang W) (t : Token) (begins : (w : List Token) (v : V) (x : List Token) → A w v → front (w ++ x) ≡ t)
    (never : (w : List Token) (v : W) (x : List Token) → B w v → front (w ++ x) ≡ t → ⊥) where
  abbrev N : Lang (Option V × W)
  N = Both (Perhaps A) B

  none_whole : (a : List Token) (u : W) → (n : N a (None, u)) → a ≡ n.second
  none_whole a u n = n.tokens ∙ ap (λ l. l ++ n.second) n.left

  differ : (a b x y : List Token) (v : V) (u z : W) → N a (None, u) → N b (Some v, z) → a ++ x ≡ b ++ y → ⊥
  differ a b x y v u z n m e =
      never n.second u x n.right
      (ap front (ap (λ l. l ++ x) (sym (none_whole a u n)) ∙ e ∙ ap (λ l. l ++ y) m.tokens ∙ append_assoc m.first m.second y) ∙ begins m.first v (m.second ++ y) m.left)

  maybe_same : Lawful any A → Lawful any B → (c d : Option V) (u z : W) (a b x y : List Token) → N a (c, u) → N b (d, z) → a ++ x ≡ b ++ y
      → (a ≡ b) × ◌≡◌ {A = Option V × W} (c, u) (d, z)
  maybe_same law end None None u z a b x y n m e =
      let p = none_whole a u n in let q = none_whole b z m in
      let s = end.same n.second m.second x y u z n.right m.right refl refl (ap (λ l. l ++ x) (sym p) ∙ e ∙ ap (λ l. l ++ y) q) in
      (p ∙ s.0 ∙ sym q, λ i. (None, s.1 i))
  maybe_same law end None (Some w) u z a b x y n m e = absurd (differ a b x y w u z n m e)
  maybe_same law end (Some v) None u z a b x y n m e = absurd (differ b a y x v z u m n (sym e))
  maybe_same law end (Some v) (Some w) u z a b x y n m e =
      let s = (both_lawful any any A B (λ b v x n o. refl) law end).same a b x y (v, u) (w, z)
      (record { first = n.first; second = n.second; left = n.left; right = n.right; tokens = n.tokens })
      (record { first = m.first; second = m.second; left = m.left; right = m.right; tokens = m.tokens }) refl refl e in
      (s.0, λ i. (Some (s.1 i).0, (s.1 i).1))

  pub maybe_lawful : Lawful any A → Lawful any B → Lawful any N
  maybe_lawful law end = record {
    same = λ a b x y v w n m o p e. maybe_same law end v.0 w.0 v.1 w.1 a b x y n m e;
    some = record { more = end.some.more; value = (None, end.some.value); word = record { first = []; second = end.some.more; left = refl; right = end.some.word; tokens = refl }; proper = end.some.proper };
  }
