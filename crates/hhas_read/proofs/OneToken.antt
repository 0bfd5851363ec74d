-- Languages of one token.
use Rattle.std.proofs.Common.{◌≡◌, true, ◌&&◌, [], ◌∷◌, ◌++◌, refl, sym, ap, ◌∙◌}
use Rattle.hhas_lex.specs.Tokens.{Token}
use Rattle.hhas_lex.specs.Spelling.{is_proper}
use Rattle.hhbc_repo.specs.Languages.{Lang}
use Rattle.hhas_read.specs.Reading.{Placed, Past, Follow, StuckAt, Taken, Just, next}
use Rattle.hhas_read.proofs.Resuming.{past_none}
use Rattle.hhas_read.proofs.Joining.{Lawful}

module _ {V : Type 0} (k : V → Token) where
  abbrev pub Single : Lang V
  Single ts v = ts ≡ k v ∷ []

  pub single_stuck : (F : Follow) (v : V) → is_proper (k v) ≡ true → (p : Placed) → ((w : V) → next p ≡ k w → ⊥) → StuckAt F Single p p
  single_stuck F v e p other = record {
    read = [];
    past = past_none p;
    viable = record { more = k v ∷ []; value = v; word = refl; proper = ap (λ c. c && true) e };
    dead = λ w u x y n o d. other u (sym (cc (d, ap (λ l. l ++ x) n)));
  }

  pub single_lawful : (F : Follow) (v : V) → is_proper (k v) ≡ true → ((v w : V) → k v ≡ k w → v ≡ w) → Lawful F Single
  single_lawful F v e one = record {
    same = λ a b x y u w n m o p d. let s = one u w (cc (d, ap (λ l. l ++ x) n, ap (λ l. l ++ y) m)) in (n ∙ ap (λ z. k z ∷ []) s ∙ sym m, s);
    some = record { more = k v ∷ []; value = v; word = refl; proper = ap (λ c. c && true) e };
  }

module _ {V : Type 0} (k : V → Token) (P : V → Type 0) where
  abbrev pub Guarded : Lang V
  Guarded ts v = (ts ≡ k v ∷ []) × P v

  pub guarded_stuck : (F : Follow) (v : V) → is_proper (k v) ≡ true → P v → (p : Placed) → ((w : V) → next p ≡ k w → P w → ⊥) → StuckAt F Guarded p p
  guarded_stuck F v e fits p other = record {
    read = [];
    past = past_none p;
    viable = record { more = k v ∷ []; value = v; word = (refl, fits); proper = ap (λ c. c && true) e };
    dead = λ w u x y n o d. other u (sym (cc (d, ap (λ l. l ++ x) n.0))) n.1;
  }

-- ---- a token without a value

pub just_stuck : (F : Follow) (t : Token) → is_proper t ≡ true → (p : Placed) → (next p ≡ t → ⊥) → StuckAt F (Just t) p p
just_stuck F t e p other = record {
  read = [];
  past = past_none p;
  viable = record { more = t ∷ []; value = tt; word = refl; proper = ap (λ c. c && true) e };
  dead = λ w u x y n o d. other (sym (cc (d, ap (λ l. l ++ x) n)));
}

pub just_taken : (F : Follow) (t : Token) (p q : Placed) → next p ≡ t → Past (next p ∷ []) p q → F (next q) ≡ true → Taken F (Just t) p q tt
just_taken F t p q e past follows = record { used = next p ∷ []; past = past; word = ap (λ t. t ∷ []) e; follows = follows }

pub just_lawful : (F : Follow) (t : Token) → is_proper t ≡ true → Lawful F (Just t)
just_lawful F t e = record {
  same = λ a b x y u w n m o p d. (n ∙ sym m, refl);
  some = record { more = t ∷ []; value = tt; word = refl; proper = ap (λ c. c && true) e };
}
