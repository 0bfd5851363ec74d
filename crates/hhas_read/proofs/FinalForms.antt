-- The finals of member sequences.
use Rattle.std.proofs.Common.{◌≡◌, ℕ, Bool, true, List, [], ◌∷◌, ◌++◌, inl, inr, refl, sym, ap, ◌∙◌, codes}
use Rattle.hhas_lex.specs.Tokens.{Token, Word, front}
use Rattle.hhbc_repo.specs.declared.parts.FinalParts.{FinalParts}
use Rattle.hhbc_repo.specs.declared.parts.FinalParts.TheVariants as finals
use Rattle.hhbc_repo.specs.Languages.{Both}
use Rattle.hhbc_repo.specs.CodeSyntax.{AFinal, AMode, AnIndex, QueryKey, is_query}
use Rattle.hhas_read.specs.Reading.{Placed, StuckAt, Viable, next, any}
use Rattle.hhas_read.specs.Sequences.{FinalAfter, query, set, set_op, inc_dec, unset}
use Rattle.hhas_read.proofs.Resuming.{past_none}
use Rattle.hhas_read.proofs.Joining.{behind_some, both_some}
use Rattle.hhas_read.proofs.FirstWord.{Form}
use Rattle.hhas_read.proofs.KeyForms.{some_query_key}
use Rattle.hhas_read.proofs.Operands.{index_lawful, mode_lawful}

-- the word that a final begins with
abbrev pub final_word : FinalParts → List ℕ
final_word (finals.Query n mode k) = codes "QueryM"
final_word (finals.Set n k) = codes "SetM"
final_word (finals.SetOp n op k) = codes "SetOpM"
final_word (finals.IncDec n op k) = codes "IncDecM"
final_word (finals.Unset n k) = codes "UnsetM"

pub final_begins : (w : List Token) (f : FinalParts) (x : List Token) → AFinal w f → front (w ++ x) ≡ Word (final_word f)
final_begins w (finals.Query n mode k) x m = ap (λ l. front (l ++ x)) m.tokens
final_begins w (finals.Set n k) x m = ap (λ l. front (l ++ x)) m.tokens
final_begins w (finals.SetOp n op k) x m = ap (λ l. front (l ++ x)) m.tokens
final_begins w (finals.IncDec n op k) x m = ap (λ l. front (l ++ x)) m.tokens
final_begins w (finals.Unset n k) x m = ap (λ l. front (l ++ x)) m.tokens

pub after_begins : (nullsafe : Bool) (w : List Token) (f : FinalParts) (x : List Token) → FinalAfter nullsafe w f → front (w ++ x) ≡ Word (final_word f)
after_begins nullsafe w f x n = final_begins w f x n.0

pub query_form : Form final_word query (codes "QueryM")
query_form (finals.Query n mode k) = inl ((n, (mode, k)), refl)
query_form (finals.Set n k) = inr refl
query_form (finals.SetOp n op k) = inr refl
query_form (finals.IncDec n op k) = inr refl
query_form (finals.Unset n k) = inr refl

pub set_form : Form final_word set (codes "SetM")
set_form (finals.Query n mode k) = inr refl
set_form (finals.Set n k) = inl ((n, k), refl)
set_form (finals.SetOp n op k) = inr refl
set_form (finals.IncDec n op k) = inr refl
set_form (finals.Unset n k) = inr refl

pub set_op_form : Form final_word set_op (codes "SetOpM")
set_op_form (finals.Query n mode k) = inr refl
set_op_form (finals.Set n k) = inr refl
set_op_form (finals.SetOp n op k) = inl ((n, (op, k)), refl)
set_op_form (finals.IncDec n op k) = inr refl
set_op_form (finals.Unset n k) = inr refl

pub inc_dec_form : Form final_word inc_dec (codes "IncDecM")
inc_dec_form (finals.Query n mode k) = inr refl
inc_dec_form (finals.Set n k) = inr refl
inc_dec_form (finals.SetOp n op k) = inr refl
inc_dec_form (finals.IncDec n op k) = inl ((n, (op, k)), refl)
inc_dec_form (finals.Unset n k) = inr refl

pub unset_form : Form final_word unset (codes "UnsetM")
unset_form (finals.Query n mode k) = inr refl
unset_form (finals.Set n k) = inr refl
unset_form (finals.SetOp n op k) = inr refl
unset_form (finals.IncDec n op k) = inr refl
unset_form (finals.Unset n k) = inl ((n, k), refl)

some_operands : Viable (Both AnIndex (Both AMode QueryKey)) []
some_operands = both_some AnIndex (Both AMode QueryKey) index_lawful.some (both_some AMode QueryKey mode_lawful.some some_query_key)

pub some_final : (nullsafe : Bool) → Viable (FinalAfter nullsafe) []
some_final nullsafe =
    let b = behind_some (Word (codes "QueryM") ∷ []) (Both AnIndex (Both AMode QueryKey)) refl some_operands in
    record { more = b.more; value = query b.value; word = (b.word, λ e. refl); proper = b.proper }

-- none of the words of the finals
pub final_stuck : (nullsafe : Bool) (p : Placed) → (next p ≡ Word (codes "QueryM") → ⊥) → (next p ≡ Word (codes "SetM") → ⊥) → (next p ≡ Word (codes "SetOpM") → ⊥)
    → (next p ≡ Word (codes "IncDecM") → ⊥) → (next p ≡ Word (codes "UnsetM") → ⊥) → StuckAt any (FinalAfter nullsafe) p p
final_stuck nullsafe p no_query no_set no_set_op no_inc_dec no_unset = record {
  read = [];
  past = past_none p;
  viable = some_final nullsafe;
  dead = λ w f x y n o e. dead f (sym (ap front e) ∙ after_begins nullsafe w f x n);
}
  where
    dead : (f : FinalParts) → next p ≡ Word (final_word f) → ⊥
    dead (finals.Query n mode k) e = no_query e
    dead (finals.Set n k) e = no_set e
    dead (finals.SetOp n op k) e = no_set_op e
    dead (finals.IncDec n op k) e = no_inc_dec e
    dead (finals.Unset n k) e = no_unset e

-- behind a null-safe key only QueryM goes on
pub nullsafe_stuck : (nullsafe : Bool) (p : Placed) → nullsafe ≡ true → (next p ≡ Word (codes "QueryM") → ⊥) → StuckAt any (FinalAfter nullsafe) p p
nullsafe_stuck nullsafe p is no_query = record {
  read = [];
  past = past_none p;
  viable = some_final nullsafe;
  dead = λ w f x y n o e. dead f (sym (ap front e) ∙ after_begins nullsafe w f x n) (n.1 is);
}
  where
    dead : (f : FinalParts) → next p ≡ Word (final_word f) → is_query f ≡ true → ⊥
    dead (finals.Query n mode k) e q = no_query e
    dead _ e q = absurd (cc q)
