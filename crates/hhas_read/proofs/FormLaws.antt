-- Keys and bases stand apart from what follows, and have one value.
use Rattle.std.proofs.Common.{◌≡◌, ℕ, false, true, List, [], ◌∷◌, ◌++◌, ◌⊎◌, inl, inr, refl, sym, ap, ◌∙◌, codes, subst, pos}
use Rattle.std.specs.List.{list_all}
use Rattle.std.specs.Str.{bytes_eq}
use Rattle.std.proofs.lemmas.Slice.Eq.{bytes_eq-Decides}
use Rattle.hhas_lex.specs.Tokens.{Token, Word, Local, Integer, Str, Mark, front}
use Rattle.hhas_lex.specs.Spelling.{is_proper}
use Rattle.hhbc_repo.specs.declared.parts.MemberKeyParts.{MemberKeyParts}
use Rattle.hhbc_repo.specs.declared.parts.MemberKeyParts.TheVariants as keys
use Rattle.hhbc_repo.specs.declared.parts.BaseParts.{BaseParts}
use Rattle.hhbc_repo.specs.declared.parts.BaseParts.TheVariants as bases
use Rattle.hhbc_repo.specs.Languages.{Lang, Behind}
use Rattle.hhbc_repo.specs.CodeSyntax.{ABase, ADim, AKey, ALocal, AnIndex, AString, AnInteger, AWord, QueryKey}
use Rattle.hhas_read.specs.Reading.{Follow, Just, Tagged, any}
use Rattle.hhas_read.proofs.Reserved.{never_both}
use Rattle.hhas_read.proofs.Said.{same_word, same_local, same_integer, same_string}
use Rattle.hhas_read.proofs.Joining.{Lawful, behind_lawful}
use Rattle.hhas_read.proofs.OneToken.{single_lawful, just_lawful}
use Rattle.hhas_read.proofs.FirstWord.{Begins, Form}
use Rattle.hhas_read.proofs.Operands.{index_lawful}
use Rattle.hhas_read.proofs.KeyForms.{key_word, key_begins, some_query_key, elem_stack, elem_local, elem_text, elem_int, prop_stack, prop_local, prop_name, nullsafe_name, append}

-- one word is of a form, and so is the other
pub form_same_before : {V W : Type 0} (F : Follow) (N : Lang V) (word : V → List ℕ) (M : Lang W) (f : W → V) (name : List ℕ) → Begins word N → Form word f name
    → ((w : List Token) (u : W) → N w (f u) → M w u) → Lawful F M
    → (a b x y : List Token) (u : W) (v : V) → word (f u) ≡ name → N a (f u) → N b v → F (front x) ≡ true → F (front y) ≡ true → a ++ x ≡ b ++ y → (a ≡ b) × (f u ≡ v)
form_same_before {V} {W} F N word M f name begins form off law a b x y u v is n m o p e = by (form v)
  where
    by : ((z : W) × (v ≡ f z)) ⊎ (bytes_eq (word v) name ≡ false) → (a ≡ b) × (f u ≡ v)
    by (inl made) =
        let s = law.same a b x y u made.0 (off a u n) (off b made.0 (subst (N b) made.1 m)) o p e in
        (s.0, ap f s.1 ∙ sym made.1)
    by (inr d) =
        absurd (never_both (sym ((bytes_eq-Decides (word v) name).1 (same_word (word v) name (sym (begins b v y m) ∙ ap front (sym e) ∙ begins a (f u) x n ∙ ap Word is))) ∙ d))

-- whatever follows
pub form_same : {V W : Type 0} (N : Lang V) (word : V → List ℕ) (M : Lang W) (f : W → V) (name : List ℕ) → Begins word N → Form word f name
    → ((w : List Token) (u : W) → N w (f u) → M w u) → Lawful any M
    → (a b x y : List Token) (u : W) (v : V) → word (f u) ≡ name → N a (f u) → N b v → a ++ x ≡ b ++ y → (a ≡ b) × (f u ≡ v)
form_same N word M f name begins form off law a b x y u v is n m e = form_same_before any N word M f name begins form off law a b x y u v is n m refl refl e

pub tagged_lawful : {W : Type 0} (name : List ℕ) (A : Lang W) → list_all is_proper (Word name ∷ Mark 58 ∷ []) ≡ true → Lawful any A → Lawful any (Tagged name A)
tagged_lawful name A e law = behind_lawful any (Word name ∷ Mark 58 ∷ []) A e law

pub local_lawful : Lawful any ALocal
local_lawful = single_lawful Local any (codes "a") refl same_local

pub key_same : (a b x y : List Token) (k l : MemberKeyParts) → AKey a k → AKey b l → a ++ x ≡ b ++ y → (a ≡ b) × (k ≡ l)
key_same a b x y (keys.ElemStack i) l n m e =
    form_same AKey key_word (Tagged (codes "EC") AnIndex) keys.ElemStack (codes "EC") key_begins elem_stack (λ w u n. n) (tagged_lawful (codes "EC") AnIndex refl index_lawful) a b x y i l refl n m e
key_same a b x y (keys.ElemLocal u) l n m e =
    form_same AKey key_word (Tagged (codes "EL") ALocal) keys.ElemLocal (codes "EL") key_begins elem_local (λ w u n. n) (tagged_lawful (codes "EL") ALocal refl local_lawful) a b x y u l refl n m e
key_same a b x y (keys.ElemText u) l n m e =
    form_same AKey key_word (Tagged (codes "ET") AString) keys.ElemText (codes "ET") key_begins elem_text (λ w u n. n) (tagged_lawful (codes "ET") AString refl (single_lawful Str any [] refl same_string)) a b x y u l refl n m e
key_same a b x y (keys.ElemInt i) l n m e =
    form_same AKey key_word (Tagged (codes "EI") AnInteger) keys.ElemInt (codes "EI") key_begins elem_int (λ w u n. n) (tagged_lawful (codes "EI") AnInteger refl (single_lawful Integer any (pos 0) refl same_integer)) a b x y i l refl n m e
key_same a b x y (keys.PropStack i) l n m e =
    form_same AKey key_word (Tagged (codes "PC") AnIndex) keys.PropStack (codes "PC") key_begins prop_stack (λ w u n. n) (tagged_lawful (codes "PC") AnIndex refl index_lawful) a b x y i l refl n m e
key_same a b x y (keys.PropLocal u) l n m e =
    form_same AKey key_word (Tagged (codes "PL") ALocal) keys.PropLocal (codes "PL") key_begins prop_local (λ w u n. n) (tagged_lawful (codes "PL") ALocal refl local_lawful) a b x y u l refl n m e
key_same a b x y (keys.PropName u) l n m e =
    form_same AKey key_word (Tagged (codes "PT") AWord) keys.PropName (codes "PT") key_begins prop_name (λ w u n. n) (tagged_lawful (codes "PT") AWord refl (single_lawful Word any (codes "a") refl same_word)) a b x y u l refl n m e
key_same a b x y (keys.NullsafeName u) l n m e =
    form_same AKey key_word (Tagged (codes "QT") AWord) keys.NullsafeName (codes "QT") key_begins nullsafe_name (λ w u n. n) (tagged_lawful (codes "QT") AWord refl (single_lawful Word any (codes "a") refl same_word)) a b x y u l refl n m e
key_same a b x y keys.Append l n m e =
    form_same AKey key_word (Just (Word (codes "W"))) (λ u. keys.Append) (codes "W") key_begins append (λ w u n. n) (just_lawful any (Word (codes "W")) refl) a b x y tt l refl n m e

pub query_key_lawful : Lawful any QueryKey
query_key_lawful = record { same = λ a b x y v w n m o p e. key_same a b x y v w n.0 m.0 e; some = some_query_key }

pub dim_lawful : Lawful any ADim
dim_lawful = behind_lawful any (Word (codes "Dim") ∷ []) QueryKey refl query_key_lawful

-- ---- bases

abbrev pub base_word : BaseParts → List ℕ
base_word (bases.Local u) = codes "BaseL"
base_word (bases.Stack i) = codes "BaseC"
base_word bases.This = codes "BaseH"

pub base_begins : (w : List Token) (b : BaseParts) (x : List Token) → ABase w b → front (w ++ x) ≡ Word (base_word b)
base_begins w (bases.Local u) x n = ap (λ l. front (l ++ x)) n.tokens
base_begins w (bases.Stack i) x n = ap (λ l. front (l ++ x)) n.tokens
base_begins w bases.This x n = ap (λ l. front (l ++ x)) n

a_local : Form base_word bases.Local (codes "BaseL")
a_local (bases.Local u) = inl (u, refl)
a_local (bases.Stack i) = inr refl
a_local bases.This = inr refl

a_slot : Form base_word bases.Stack (codes "BaseC")
a_slot (bases.Local u) = inr refl
a_slot (bases.Stack i) = inl (i, refl)
a_slot bases.This = inr refl

this : Form base_word (λ (u : Unit {0}). bases.This) (codes "BaseH")
this (bases.Local u) = inr refl
this (bases.Stack i) = inr refl
this bases.This = inl (tt, refl)

base_same : (a b x y : List Token) (k l : BaseParts) → ABase a k → ABase b l → a ++ x ≡ b ++ y → (a ≡ b) × (k ≡ l)
base_same a b x y (bases.Local u) l n m e =
    form_same ABase base_word (Behind (Word (codes "BaseL") ∷ []) ALocal) bases.Local (codes "BaseL") base_begins a_local (λ w u n. n)
    (behind_lawful any (Word (codes "BaseL") ∷ []) ALocal refl local_lawful) a b x y u l refl n m e
base_same a b x y (bases.Stack i) l n m e =
    form_same ABase base_word (Behind (Word (codes "BaseC") ∷ []) AnIndex) bases.Stack (codes "BaseC") base_begins a_slot (λ w u n. n)
    (behind_lawful any (Word (codes "BaseC") ∷ []) AnIndex refl index_lawful) a b x y i l refl n m e
base_same a b x y bases.This l n m e =
    form_same ABase base_word (Just (Word (codes "BaseH"))) (λ u. bases.This) (codes "BaseH") base_begins this (λ w u n. n) (just_lawful any (Word (codes "BaseH")) refl) a b x y tt l refl n m e

pub base_lawful : Lawful any ABase
base_lawful = record {
  same = λ a b x y v w n m o p e. base_same a b x y v w n m e;
  some = record { more = Word (codes "BaseH") ∷ []; value = bases.This; word = refl; proper = refl };
}
