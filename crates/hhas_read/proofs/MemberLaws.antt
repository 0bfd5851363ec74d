-- Finals and member sequences stand apart from what follows, and have one value.
use Rattle.std.proofs.Common.{◌≡◌, false, true, List, [], ◌∷◌, ◌++◌, refl, sym, ap, ◌∙◌, codes}
use Rattle.std.specs.Str.{bytes_eq}
use Rattle.std.proofs.lemmas.Slice.Eq.{bytes_eq-Decides}
use Rattle.hhas_lex.specs.Tokens.{Token, Word, front}
use Rattle.hhbc_repo.specs.declared.parts.FinalParts.{FinalParts}
use Rattle.hhbc_repo.specs.declared.parts.FinalParts.TheVariants as finals
use Rattle.hhbc_repo.specs.declared.parts.BaseParts.{BaseParts}
use Rattle.hhbc_repo.specs.declared.parts.MemberSeqParts.{MemberSeqParts}
use Rattle.hhbc_repo.specs.Languages.{Behind, Both}
use Rattle.hhbc_repo.specs.CodeSyntax.{ABase, AChange, ADim, AFinal, AMemberSeq, AMode, AnIndex, ASetOp, ChangeKey, QueryKey, SetKey}
use Rattle.hhas_read.specs.Reading.{any}
use Rattle.hhas_read.specs.Sequences.{DimsAfter, query, set, set_op, inc_dec, unset}
use Rattle.hhas_read.proofs.Resuming.{Resumes}
use Rattle.hhas_read.proofs.Joining.{Lawful, behind_lawful, both_lawful}
use Rattle.hhas_read.proofs.Reserved.{never_both}
use Rattle.hhas_read.proofs.Said.{same_word}
use Rattle.hhas_read.proofs.Making.{made_lawful}
use Rattle.hhas_read.proofs.Many.{Apart, run_lawful}
use Rattle.hhas_read.proofs.Operands.{index_lawful, mode_lawful, set_op_lawful, change_lawful}
use Rattle.hhas_read.proofs.KeyForms.{some_key, some_set_key}
use Rattle.hhas_read.proofs.FormLaws.{base_lawful, dim_lawful, form_same, key_same, query_key_lawful}
use Rattle.hhas_read.proofs.FinalForms.{final_word, final_begins, query_form, set_form, set_op_form, inc_dec_form, unset_form, some_final}
use Rattle.hhas_read.proofs.DimForms.{Sequel}
use Rattle.hhas_read.proofs.MemberForms.{with_base}

-- ---- finals

set_key_lawful : Lawful any SetKey
set_key_lawful = record { same = λ a b x y v w n m o p e. key_same a b x y v w n.0 m.0 e; some = some_set_key }

change_key_lawful : Lawful any ChangeKey
change_key_lawful = record { same = λ a b x y v w n m o p e. key_same a b x y v w n.0 m.0 e; some = some_key }

query_lawful : Lawful any (Behind (Word (codes "QueryM") ∷ []) (Both AnIndex (Both AMode QueryKey)))
query_lawful =
    behind_lawful any (Word (codes "QueryM") ∷ []) (Both AnIndex (Both AMode QueryKey)) refl
    (both_lawful any any AnIndex (Both AMode QueryKey) (λ b v x n o. refl) index_lawful (both_lawful any any AMode QueryKey (λ b v x n o. refl) mode_lawful query_key_lawful))

set_lawful : Lawful any (Behind (Word (codes "SetM") ∷ []) (Both AnIndex SetKey))
set_lawful =
    behind_lawful any (Word (codes "SetM") ∷ []) (Both AnIndex SetKey) refl (both_lawful any any AnIndex SetKey (λ b v x n o. refl) index_lawful set_key_lawful)

set_op_final_lawful : Lawful any (Behind (Word (codes "SetOpM") ∷ []) (Both AnIndex (Both ASetOp ChangeKey)))
set_op_final_lawful =
    behind_lawful any (Word (codes "SetOpM") ∷ []) (Both AnIndex (Both ASetOp ChangeKey)) refl
    (both_lawful any any AnIndex (Both ASetOp ChangeKey) (λ b v x n o. refl) index_lawful (both_lawful any any ASetOp ChangeKey (λ b v x n o. refl) set_op_lawful change_key_lawful))

inc_dec_lawful : Lawful any (Behind (Word (codes "IncDecM") ∷ []) (Both AnIndex (Both AChange ChangeKey)))
inc_dec_lawful =
    behind_lawful any (Word (codes "IncDecM") ∷ []) (Both AnIndex (Both AChange ChangeKey)) refl
    (both_lawful any any AnIndex (Both AChange ChangeKey) (λ b v x n o. refl) index_lawful (both_lawful any any AChange ChangeKey (λ b v x n o. refl) change_lawful change_key_lawful))

unset_lawful : Lawful any (Behind (Word (codes "UnsetM") ∷ []) (Both AnIndex ChangeKey))
unset_lawful =
    behind_lawful any (Word (codes "UnsetM") ∷ []) (Both AnIndex ChangeKey) refl (both_lawful any any AnIndex ChangeKey (λ b v x n o. refl) index_lawful change_key_lawful)

final_same : (a b x y : List Token) (f g : FinalParts) → AFinal a f → AFinal b g → a ++ x ≡ b ++ y → (a ≡ b) × (f ≡ g)
final_same a b x y (finals.Query i mode k) g n m e =
    form_same AFinal final_word (Behind (Word (codes "QueryM") ∷ []) (Both AnIndex (Both AMode QueryKey))) query (codes "QueryM") final_begins query_form (λ w u n. n) query_lawful
    a b x y (i, (mode, k)) g refl n m e
final_same a b x y (finals.Set i k) g n m e =
    form_same AFinal final_word (Behind (Word (codes "SetM") ∷ []) (Both AnIndex SetKey)) set (codes "SetM") final_begins set_form (λ w u n. n) set_lawful a b x y (i, k) g refl n m e
final_same a b x y (finals.SetOp i op k) g n m e =
    form_same AFinal final_word (Behind (Word (codes "SetOpM") ∷ []) (Both AnIndex (Both ASetOp ChangeKey))) set_op (codes "SetOpM") final_begins set_op_form (λ w u n. n) set_op_final_lawful
    a b x y (i, (op, k)) g refl n m e
final_same a b x y (finals.IncDec i op k) g n m e =
    form_same AFinal final_word (Behind (Word (codes "IncDecM") ∷ []) (Both AnIndex (Both AChange ChangeKey))) inc_dec (codes "IncDecM") final_begins inc_dec_form (λ w u n. n) inc_dec_lawful
    a b x y (i, (op, k)) g refl n m e
final_same a b x y (finals.Unset i k) g n m e =
    form_same AFinal final_word (Behind (Word (codes "UnsetM") ∷ []) (Both AnIndex ChangeKey)) unset (codes "UnsetM") final_begins unset_form (λ w u n. n) unset_lawful a b x y (i, k) g refl n m e

final_lawful : Lawful any AFinal
final_lawful =
    let s = some_final true in record {
      same = λ a b x y v w n m o p e. final_same a b x y v w n m e;
      some = record { more = s.more; value = s.value; word = s.word.0; proper = s.proper };
    }

-- ---- keys with Dim, and a final

not_dim : (f : FinalParts) → bytes_eq (final_word f) (codes "Dim") ≡ false
not_dim (finals.Query i mode k) = refl
not_dim _ = refl

dim_or_final : Apart any any ADim AFinal
dim_or_final a k x n o b f y m p e =
    never_both (sym ((bytes_eq-Decides (final_word f) (codes "Dim")).1
    (same_word (final_word f) (codes "Dim") (sym (final_begins b f y m) ∙ e ∙ ap (λ l. front (l ++ x)) n.tokens))) ∙ not_dim f)

dims_lawful : Lawful any (DimsAfter false)
dims_lawful =
    let law = run_lawful any any ADim AFinal (λ b v x n o. refl) dim_lawful final_lawful dim_or_final in let s = some_final true in record {
      same = λ a b x y v w n m o p e. law.same a b x y v w n.0 m.0 o p e;
      some = record {
        more = s.more;
        value = ([], s.value);
        word = (record { first = []; second = s.more; left = refl; right = s.word.0; tokens = refl }, λ e. s.word.1 refl);
        proper = s.proper;
      };
    }

-- ---- whole sequences

abbrev based : BaseParts × Sequel → MemberSeqParts
based p = with_base p.0 p.1

member_resumes : (left : List Token) → Resumes any AMemberSeq [] (Both ABase (DimsAfter false)) based left
member_resumes left = record {
  on = λ ts u m. record { word = record { first = m.first; second = m.second; left = m.left; right = m.right.0; tokens = m.tokens }; nullsafe = m.right.1 };
  back = λ w v x y n o h e.
      let m = n.word in
      (w, (v.base, (v.dims, v.last)), record { first = m.first; second = m.second; left = m.left; right = (m.right, n.nullsafe); tokens = m.tokens }, refl, refl);
}

pub member_law : Lawful any AMemberSeq
member_law = made_lawful any AMemberSeq (Both ABase (DimsAfter false)) based member_resumes (both_lawful any any ABase (DimsAfter false) (λ b v x n o. refl) base_lawful dims_lawful)
