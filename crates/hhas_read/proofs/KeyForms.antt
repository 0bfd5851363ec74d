-- The keys of member sequences.
use Rattle.std.proofs.Common.{◌≡◌, ℕ, false, true, List, [], ◌∷◌, ◌++◌, inl, inr, refl, sym, ap, ◌∙◌, codes, lit≤, pos}
use Rattle.hhas_lex.specs.Tokens.{Token, Word, Mark, Integer, front}
use Rattle.hhbc_repo.specs.declared.parts.MemberKeyParts.{MemberKeyParts}
use Rattle.hhbc_repo.specs.declared.parts.MemberKeyParts.TheVariants as keys
use Rattle.hhbc_repo.specs.CodeSyntax.{AKey, QueryKey, SetKey, ChangeKey, is_append, is_nullsafe}
use Rattle.hhas_read.specs.Reading.{Placed, StuckAt, Viable, next, any}
use Rattle.hhas_read.proofs.Resuming.{past_none}
use Rattle.hhas_read.proofs.FirstWord.{Form}

-- the word that a key begins with
abbrev pub key_word : MemberKeyParts → List ℕ
key_word (keys.ElemStack i) = codes "EC"
key_word (keys.ElemLocal u) = codes "EL"
key_word (keys.ElemText u) = codes "ET"
key_word (keys.ElemInt i) = codes "EI"
key_word (keys.PropStack i) = codes "PC"
key_word (keys.PropLocal u) = codes "PL"
key_word (keys.PropName u) = codes "PT"
key_word (keys.NullsafeName u) = codes "QT"
key_word keys.Append = codes "W"

pub key_begins : (w : List Token) (k : MemberKeyParts) (x : List Token) → AKey w k → front (w ++ x) ≡ Word (key_word k)
key_begins w (keys.ElemStack i) x n = ap (λ l. front (l ++ x)) n.tokens
key_begins w (keys.ElemLocal u) x n = ap (λ l. front (l ++ x)) n.tokens
key_begins w (keys.ElemText u) x n = ap (λ l. front (l ++ x)) n.tokens
key_begins w (keys.ElemInt i) x n = ap (λ l. front (l ++ x)) n.tokens
key_begins w (keys.PropStack i) x n = ap (λ l. front (l ++ x)) n.tokens
key_begins w (keys.PropLocal u) x n = ap (λ l. front (l ++ x)) n.tokens
key_begins w (keys.PropName u) x n = ap (λ l. front (l ++ x)) n.tokens
key_begins w (keys.NullsafeName u) x n = ap (λ l. front (l ++ x)) n.tokens
key_begins w keys.Append x n = ap (λ l. front (l ++ x)) n

-- ---- each form has a word of its own

pub elem_stack : Form key_word keys.ElemStack (codes "EC")
elem_stack (keys.ElemStack i) = inl (i, refl)
elem_stack (keys.ElemLocal u) = inr refl
elem_stack (keys.ElemText u) = inr refl
elem_stack (keys.ElemInt i) = inr refl
elem_stack (keys.PropStack i) = inr refl
elem_stack (keys.PropLocal u) = inr refl
elem_stack (keys.PropName u) = inr refl
elem_stack (keys.NullsafeName u) = inr refl
elem_stack keys.Append = inr refl

pub elem_local : Form key_word keys.ElemLocal (codes "EL")
elem_local (keys.ElemStack i) = inr refl
elem_local (keys.ElemLocal u) = inl (u, refl)
elem_local (keys.ElemText u) = inr refl
elem_local (keys.ElemInt i) = inr refl
elem_local (keys.PropStack i) = inr refl
elem_local (keys.PropLocal u) = inr refl
elem_local (keys.PropName u) = inr refl
elem_local (keys.NullsafeName u) = inr refl
elem_local keys.Append = inr refl

pub elem_text : Form key_word keys.ElemText (codes "ET")
elem_text (keys.ElemStack i) = inr refl
elem_text (keys.ElemLocal u) = inr refl
elem_text (keys.ElemText u) = inl (u, refl)
elem_text (keys.ElemInt i) = inr refl
elem_text (keys.PropStack i) = inr refl
elem_text (keys.PropLocal u) = inr refl
elem_text (keys.PropName u) = inr refl
elem_text (keys.NullsafeName u) = inr refl
elem_text keys.Append = inr refl

pub elem_int : Form key_word keys.ElemInt (codes "EI")
elem_int (keys.ElemStack i) = inr refl
elem_int (keys.ElemLocal u) = inr refl
elem_int (keys.ElemText u) = inr refl
elem_int (keys.ElemInt i) = inl (i, refl)
elem_int (keys.PropStack i) = inr refl
elem_int (keys.PropLocal u) = inr refl
elem_int (keys.PropName u) = inr refl
elem_int (keys.NullsafeName u) = inr refl
elem_int keys.Append = inr refl

pub prop_stack : Form key_word keys.PropStack (codes "PC")
prop_stack (keys.ElemStack i) = inr refl
prop_stack (keys.ElemLocal u) = inr refl
prop_stack (keys.ElemText u) = inr refl
prop_stack (keys.ElemInt i) = inr refl
prop_stack (keys.PropStack i) = inl (i, refl)
prop_stack (keys.PropLocal u) = inr refl
prop_stack (keys.PropName u) = inr refl
prop_stack (keys.NullsafeName u) = inr refl
prop_stack keys.Append = inr refl

pub prop_local : Form key_word keys.PropLocal (codes "PL")
prop_local (keys.ElemStack i) = inr refl
prop_local (keys.ElemLocal u) = inr refl
prop_local (keys.ElemText u) = inr refl
prop_local (keys.ElemInt i) = inr refl
prop_local (keys.PropStack i) = inr refl
prop_local (keys.PropLocal u) = inl (u, refl)
prop_local (keys.PropName u) = inr refl
prop_local (keys.NullsafeName u) = inr refl
prop_local keys.Append = inr refl

pub prop_name : Form key_word keys.PropName (codes "PT")
prop_name (keys.ElemStack i) = inr refl
prop_name (keys.ElemLocal u) = inr refl
prop_name (keys.ElemText u) = inr refl
prop_name (keys.ElemInt i) = inr refl
prop_name (keys.PropStack i) = inr refl
prop_name (keys.PropLocal u) = inr refl
prop_name (keys.PropName u) = inl (u, refl)
prop_name (keys.NullsafeName u) = inr refl
prop_name keys.Append = inr refl

pub nullsafe_name : Form key_word keys.NullsafeName (codes "QT")
nullsafe_name (keys.ElemStack i) = inr refl
nullsafe_name (keys.ElemLocal u) = inr refl
nullsafe_name (keys.ElemText u) = inr refl
nullsafe_name (keys.ElemInt i) = inr refl
nullsafe_name (keys.PropStack i) = inr refl
nullsafe_name (keys.PropLocal u) = inr refl
nullsafe_name (keys.PropName u) = inr refl
nullsafe_name (keys.NullsafeName u) = inl (u, refl)
nullsafe_name keys.Append = inr refl

pub append : Form key_word (λ (u : Unit {0}). keys.Append) (codes "W")
append (keys.ElemStack i) = inr refl
append (keys.ElemLocal u) = inr refl
append (keys.ElemText u) = inr refl
append (keys.ElemInt i) = inr refl
append (keys.PropStack i) = inr refl
append (keys.PropLocal u) = inr refl
append (keys.PropName u) = inr refl
append (keys.NullsafeName u) = inr refl
append keys.Append = inl (tt, refl)

-- ---- another word

pub change_begins : (w : List Token) (k : MemberKeyParts) (x : List Token) → ChangeKey w k → front (w ++ x) ≡ Word (key_word k)
change_begins w k x n = key_begins w k x n.0

pub some_key : Viable ChangeKey []
some_key = record {
  more = Word (codes "EC") ∷ Mark 58 ∷ Integer (pos 0) ∷ [];
  value = keys.ElemStack 0;
  word = (record { rest = Integer (pos 0) ∷ []; word = (refl, lit≤ tt); tokens = refl }, refl, refl);
  proper = refl;
}

-- none of the words of its forms
pub change_stuck : (p : Placed)
    → (next p ≡ Word (codes "EC") → ⊥) → (next p ≡ Word (codes "EL") → ⊥) → (next p ≡ Word (codes "ET") → ⊥) → (next p ≡ Word (codes "EI") → ⊥)
    → (next p ≡ Word (codes "PC") → ⊥) → (next p ≡ Word (codes "PL") → ⊥) → (next p ≡ Word (codes "PT") → ⊥) → StuckAt any ChangeKey p p
change_stuck p ec el et ei pc pl pt = record {
  read = [];
  past = past_none p;
  viable = some_key;
  dead = λ w k x y n o e. dead k (sym (ap front e) ∙ change_begins w k x n) n.1 n.2;
}
  where
    dead : (k : MemberKeyParts) → next p ≡ Word (key_word k) → is_append k ≡ false → is_nullsafe k ≡ false → ⊥
    dead (keys.ElemStack i) e a q = ec e
    dead (keys.ElemLocal u) e a q = el e
    dead (keys.ElemText u) e a q = et e
    dead (keys.ElemInt i) e a q = ei e
    dead (keys.PropStack i) e a q = pc e
    dead (keys.PropLocal u) e a q = pl e
    dead (keys.PropName u) e a q = pt e
    dead (keys.NullsafeName u) e a q = absurd (cc q)
    dead keys.Append e a q = absurd (cc a)

-- ---- keys of queries and of SetM

pub query_begins : (w : List Token) (k : MemberKeyParts) (x : List Token) → QueryKey w k → front (w ++ x) ≡ Word (key_word k)
query_begins w k x n = key_begins w k x n.0

pub query_narrow : (p : Placed) → (next p ≡ Word (codes "QT") → ⊥) → (w : List Token) (k : MemberKeyParts) (x y : List Token) → QueryKey w k
    → any (front x) ≡ true → w ++ x ≡ next p ∷ y → ChangeKey w k
query_narrow p never w k x y n o e = (n.0, n.1, other k (sym (ap front e) ∙ key_begins w k x n.0))
  where
    other : (k : MemberKeyParts) → next p ≡ Word (key_word k) → is_nullsafe k ≡ false
    other (keys.NullsafeName u) e = absurd (never e)
    other _ e = refl

pub set_narrow : (p : Placed) → (next p ≡ Word (codes "W") → ⊥) → (w : List Token) (k : MemberKeyParts) (x y : List Token) → SetKey w k
    → any (front x) ≡ true → w ++ x ≡ next p ∷ y → ChangeKey w k
set_narrow p never w k x y n o e = (n.0, other k (sym (ap front e) ∙ key_begins w k x n.0), n.1)
  where
    other : (k : MemberKeyParts) → next p ≡ Word (key_word k) → is_append k ≡ false
    other keys.Append e = absurd (never e)
    other _ e = refl

pub some_query_key : Viable QueryKey []
unfolding some_key
some_query_key = record { more = some_key.more; value = some_key.value; word = (some_key.word.0, refl); proper = refl }

pub some_set_key : Viable SetKey []
unfolding some_key
some_set_key = record { more = some_key.more; value = some_key.value; word = (some_key.word.0, refl); proper = refl }
