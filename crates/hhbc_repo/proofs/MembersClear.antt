-- The tokens of member sequences that fit are clear in their canonical text.
use Rattle.std.proofs.Common.{◌≡◌, ℕ, true, not, ◌&&◌, ◌||◌, List, [], ◌∷◌, ◌++◌, codes, pos, refl}
use Rattle.std.specs.List.{list_all, list_any, flat_map}
use Rattle.std.proofs.lemmas.Bool.{and_parts}
use Rattle.hhas_lex.specs.Spaced.{Spaced}
use Rattle.hhas_lex.specs.Spelling.{is_word}
use Rattle.hhas_lex.specs.Tokens.{Word, Local, Integer, Str}
use Rattle.hhbc_ops.specs.Words.{set_op_name, inc_dec_name, query_mode_name}
use Rattle.hhbc_repo.specs.declared.parts.BaseParts.{BaseParts}
use Rattle.hhbc_repo.specs.declared.parts.BaseParts.TheVariants as bases
use Rattle.hhbc_repo.specs.declared.parts.FinalParts.{FinalParts}
use Rattle.hhbc_repo.specs.declared.parts.FinalParts.TheVariants as finals
use Rattle.hhbc_repo.specs.declared.parts.MemberKeyParts.{MemberKeyParts}
use Rattle.hhbc_repo.specs.declared.parts.MemberKeyParts.TheVariants as keys
use Rattle.hhbc_repo.specs.declared.parts.MemberSeqParts.{MemberSeqParts}
use Rattle.hhbc_repo.specs.CodeSyntax.{is_append, is_nullsafe, is_query}
use Rattle.hhbc_repo.specs.CanonicalText.{spaced, base_pieces, key_pieces, dim_pieces, final_head, final_pieces}
use Rattle.hhbc_repo.specs.Fits.{is_index, base_fits, key_fits, query_key_fits, set_key_fits, change_key_fits, final_fits, member_fits}
use Rattle.hhbc_repo.proofs.Clearing.{Clear, clear_both, clear_each}
use Rattle.hhbc_repo.proofs.OpWords.{set_op_word, inc_dec_word, query_mode_word}
use Rattle.hhbc_repo.proofs.PiecesClear.{index_proper, line_clear, spaced_clear, token_clear, tagged_clear}

base_clear : (depth : ℕ) (b : BaseParts) → base_fits b ≡ true → Clear (base_pieces depth b)
base_clear depth (bases.Local l) h = line_clear depth (Word (codes "BaseL")) (spaced (Local l) ∷ []) refl (token_clear (Local l) h (Word (codes "BaseL")))
base_clear depth (bases.Stack n) h =
    line_clear depth (Word (codes "BaseC")) (spaced (Integer (pos n)) ∷ []) refl (token_clear (Integer (pos n)) (index_proper n h) (Word (codes "BaseC")))
base_clear depth bases.This h = line_clear depth (Word (codes "BaseH")) [] refl refl

key_clear : (k : MemberKeyParts) → key_fits k ≡ true → Clear (key_pieces k)
key_clear (keys.ElemStack n) h = tagged_clear (codes "EC") (Integer (pos n)) refl (index_proper n h)
key_clear (keys.ElemLocal l) h = tagged_clear (codes "EL") (Local l) refl h
key_clear (keys.ElemText s) h = tagged_clear (codes "ET") (Str s) refl h
key_clear (keys.ElemInt i) h = tagged_clear (codes "EI") (Integer i) refl h
key_clear (keys.PropStack n) h = tagged_clear (codes "PC") (Integer (pos n)) refl (index_proper n h)
key_clear (keys.PropLocal l) h = tagged_clear (codes "PL") (Local l) refl h
key_clear (keys.PropName w) h = tagged_clear (codes "PT") (Word w) refl h
key_clear (keys.NullsafeName w) h = tagged_clear (codes "QT") (Word w) refl h
key_clear keys.Append h = token_clear (Word (codes "W")) refl

dim_clear : (depth : ℕ) (k : MemberKeyParts) → query_key_fits k ≡ true → Clear (dim_pieces depth k)
dim_clear depth k h =
    line_clear depth (Word (codes "Dim")) (key_pieces k) refl (key_clear k (and_parts (key_fits k) (not (is_append k)) h).0 (Word (codes "Dim")))

-- a final's word, its index, and what stands behind them
final_line : (depth : ℕ) (word : List ℕ) (n : ℕ) (ss : List Spaced) → is_word word ≡ true → is_index n ≡ true → Clear ss → Clear (final_head depth word n ++ ss)
final_line depth word n ss w h k =
    line_clear depth (Word word) (spaced (Integer (pos n)) ∷ ss) w (spaced_clear (Integer (pos n)) ss (index_proper n h) (k (Integer (pos n))) (Word word))

-- a word, and a key behind it
word_key : (word : List ℕ) (k : MemberKeyParts) → is_word word ≡ true → key_fits k ≡ true → Clear (spaced (Word word) ∷ key_pieces k)
word_key word k w h = spaced_clear (Word word) (key_pieces k) w (key_clear k h (Word word))

final_clear : (depth : ℕ) (f : FinalParts) → final_fits f ≡ true → Clear (final_pieces depth f)
final_clear depth (finals.Query n mode k) h =
    let x = and_parts (is_index n) (query_key_fits k) h in
    let y = and_parts (key_fits k) (not (is_append k)) x.1 in
    final_line depth (codes "QueryM") n (spaced (Word (query_mode_name mode)) ∷ key_pieces k) refl x.0 (word_key (query_mode_name mode) k (query_mode_word mode) y.0)
final_clear depth (finals.Set n k) h =
    let x = and_parts (is_index n) (set_key_fits k) h in
    let y = and_parts (key_fits k) (not (is_nullsafe k)) x.1 in
    final_line depth (codes "SetM") n (key_pieces k) refl x.0 (key_clear k y.0)
final_clear depth (finals.SetOp n op k) h =
    let x = and_parts (is_index n) (change_key_fits k) h in
    let y = and_parts (key_fits k) (not (is_append k) && not (is_nullsafe k)) x.1 in
    final_line depth (codes "SetOpM") n (spaced (Word (set_op_name op)) ∷ key_pieces k) refl x.0 (word_key (set_op_name op) k (set_op_word op) y.0)
final_clear depth (finals.IncDec n op k) h =
    let x = and_parts (is_index n) (change_key_fits k) h in
    let y = and_parts (key_fits k) (not (is_append k) && not (is_nullsafe k)) x.1 in
    final_line depth (codes "IncDecM") n (spaced (Word (inc_dec_name op)) ∷ key_pieces k) refl x.0 (word_key (inc_dec_name op) k (inc_dec_word op) y.0)
final_clear depth (finals.Unset n k) h =
    let x = and_parts (is_index n) (change_key_fits k) h in
    let y = and_parts (key_fits k) (not (is_append k) && not (is_nullsafe k)) x.1 in
    final_line depth (codes "UnsetM") n (key_pieces k) refl x.0 (key_clear k y.0)

pub member_clear : (depth : ℕ) (m : MemberSeqParts) → member_fits m ≡ true
    → Clear (base_pieces depth m.base ++ (flat_map (dim_pieces depth) m.dims ++ final_pieces depth m.last))
member_clear depth m h =
    let dims = list_all query_key_fits m.dims in
    let safe = not (list_any is_nullsafe m.dims) || is_query m.last in
    let x = and_parts (base_fits m.base) (dims && (final_fits m.last && safe)) h in
    let y = and_parts dims (final_fits m.last && safe) x.1 in
    let z = and_parts (final_fits m.last) safe y.1 in
    let keys = flat_map (dim_pieces depth) m.dims in
    let final = final_pieces depth m.last in
    clear_both (base_pieces depth m.base) (keys ++ final) (base_clear depth m.base x.0)
    (clear_both keys final (clear_each (dim_pieces depth) query_key_fits (dim_clear depth) m.dims y.0) (final_clear depth m.last z.0))
