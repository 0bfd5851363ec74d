-- Member sequences that fit are spelled by the tokens of their canonical text.
use Rattle.std.proofs.Common.{◌≡◌, ℕ, Bool, true, false, not, ◌&&◌, ◌||◌, List, [], ◌∷◌, ◌++◌, codes, pos, refl}
use Rattle.std.specs.List.{list_all, list_any, flat_map}
use Rattle.std.proofs.lemmas.Bool.{and_parts, not-true, false≢true}
use Rattle.hhas_lex.specs.Tokens.{Token, Word, Local, Integer, Str, Mark}
use Rattle.hhbc_ops.specs.Words.{set_op_name, inc_dec_name, query_mode_name}
use Rattle.hhbc_repo.specs.declared.parts.BaseParts.{BaseParts}
use Rattle.hhbc_repo.specs.declared.parts.BaseParts.TheVariants as bases
use Rattle.hhbc_repo.specs.declared.parts.FinalParts.{FinalParts}
use Rattle.hhbc_repo.specs.declared.parts.FinalParts.TheVariants as finals
use Rattle.hhbc_repo.specs.declared.parts.MemberKeyParts.{MemberKeyParts}
use Rattle.hhbc_repo.specs.declared.parts.MemberKeyParts.TheVariants as keys
use Rattle.hhbc_repo.specs.declared.parts.MemberSeqParts.{MemberSeqParts}
use Rattle.hhbc_repo.specs.Languages.{Lang, Behind, Both, Many}
use Rattle.hhbc_repo.specs.CodeSyntax.{AWord, ALocal, AString, AnInteger, AnIndex, ABase, AKey, is_append, is_nullsafe, QueryKey, SetKey, ChangeKey, ADim, AMode, ASetOp, AChange, AFinal, is_query, AMemberSeq}
use Rattle.hhbc_repo.specs.CanonicalText.{base_pieces, key_pieces, dim_pieces, final_pieces}
use Rattle.hhbc_repo.specs.Fits.{is_index, base_fits, key_fits, query_key_fits, set_key_fits, change_key_fits, final_fits, member_fits}
use Rattle.hhbc_repo.proofs.Clearing.{tokens_in}
use Rattle.hhbc_repo.proofs.PiecesSpelled.{spelled_behind, spelled_both, pieces_both, pieces_many, index_spelled}

base_spelled : (depth : ℕ) (b : BaseParts) → base_fits b ≡ true → ABase (tokens_in (base_pieces depth b)) b
base_spelled depth (bases.Local w) h = spelled_behind (Word (codes "BaseL") ∷ []) (Local w ∷ []) ALocal w refl
base_spelled depth (bases.Stack n) h = spelled_behind (Word (codes "BaseC") ∷ []) (Integer (pos n) ∷ []) AnIndex n (index_spelled n h)
base_spelled depth bases.This h = refl

-- ---- keys

key_spelled : (k : MemberKeyParts) → key_fits k ≡ true → AKey (tokens_in (key_pieces k)) k
key_spelled (keys.ElemStack n) h = spelled_behind (Word (codes "EC") ∷ Mark 58 ∷ []) (Integer (pos n) ∷ []) AnIndex n (index_spelled n h)
key_spelled (keys.ElemLocal w) h = spelled_behind (Word (codes "EL") ∷ Mark 58 ∷ []) (Local w ∷ []) ALocal w refl
key_spelled (keys.ElemText s) h = spelled_behind (Word (codes "ET") ∷ Mark 58 ∷ []) (Str s ∷ []) AString s refl
key_spelled (keys.ElemInt i) h = spelled_behind (Word (codes "EI") ∷ Mark 58 ∷ []) (Integer i ∷ []) AnInteger i refl
key_spelled (keys.PropStack n) h = spelled_behind (Word (codes "PC") ∷ Mark 58 ∷ []) (Integer (pos n) ∷ []) AnIndex n (index_spelled n h)
key_spelled (keys.PropLocal w) h = spelled_behind (Word (codes "PL") ∷ Mark 58 ∷ []) (Local w ∷ []) ALocal w refl
key_spelled (keys.PropName w) h = spelled_behind (Word (codes "PT") ∷ Mark 58 ∷ []) (Word w ∷ []) AWord w refl
key_spelled (keys.NullsafeName w) h = spelled_behind (Word (codes "QT") ∷ Mark 58 ∷ []) (Word w ∷ []) AWord w refl
key_spelled keys.Append h = refl

query_key : (k : MemberKeyParts) → query_key_fits k ≡ true → QueryKey (tokens_in (key_pieces k)) k
query_key k h =
    let x = and_parts (key_fits k) (not (is_append k)) h in
    (key_spelled k x.0, not-true (is_append k) x.1)

set_key : (k : MemberKeyParts) → set_key_fits k ≡ true → SetKey (tokens_in (key_pieces k)) k
set_key k h =
    let x = and_parts (key_fits k) (not (is_nullsafe k)) h in
    (key_spelled k x.0, not-true (is_nullsafe k) x.1)

change_key : (k : MemberKeyParts) → change_key_fits k ≡ true → ChangeKey (tokens_in (key_pieces k)) k
change_key k h =
    let x = and_parts (key_fits k) (not (is_append k) && not (is_nullsafe k)) h in
    let y = and_parts (not (is_append k)) (not (is_nullsafe k)) x.1 in
    (key_spelled k x.0, not-true (is_append k) y.0, not-true (is_nullsafe k) y.1)

dim_spelled : (depth : ℕ) (k : MemberKeyParts) → query_key_fits k ≡ true → ADim (tokens_in (dim_pieces depth k)) k
dim_spelled depth k h = spelled_behind (Word (codes "Dim") ∷ []) (tokens_in (key_pieces k)) QueryKey k (query_key k h)

-- ---- finals

-- a word, an index, and what is spelled behind them
numbered : {V : Type 0} (word : List ℕ) (A : Lang V) (n : ℕ) (rest : List Token) (v : V) → is_index n ≡ true → A rest v
    → Behind (Word word ∷ []) (Both AnIndex A) (Word word ∷ Integer (pos n) ∷ rest) (n, v)
numbered word A n rest v h w =
    spelled_behind (Word word ∷ []) (Integer (pos n) ∷ rest) (Both AnIndex A) (n, v)
    (spelled_both AnIndex A (Integer (pos n) ∷ []) rest (n, v) (index_spelled n h) w)

final_spelled : (depth : ℕ) (f : FinalParts) → final_fits f ≡ true → AFinal (tokens_in (final_pieces depth f)) f
final_spelled depth (finals.Query n mode k) h =
    let x = and_parts (is_index n) (query_key_fits k) h in
    let key = tokens_in (key_pieces k) in
    numbered (codes "QueryM") (Both AMode QueryKey) n (Word (query_mode_name mode) ∷ key) (mode, k) x.0
    (spelled_both AMode QueryKey (Word (query_mode_name mode) ∷ []) key (mode, k) refl (query_key k x.1))
final_spelled depth (finals.Set n k) h =
    let x = and_parts (is_index n) (set_key_fits k) h in
    numbered (codes "SetM") SetKey n (tokens_in (key_pieces k)) k x.0 (set_key k x.1)
final_spelled depth (finals.SetOp n op k) h =
    let x = and_parts (is_index n) (change_key_fits k) h in
    let key = tokens_in (key_pieces k) in
    numbered (codes "SetOpM") (Both ASetOp ChangeKey) n (Word (set_op_name op) ∷ key) (op, k) x.0
    (spelled_both ASetOp ChangeKey (Word (set_op_name op) ∷ []) key (op, k) refl (change_key k x.1))
final_spelled depth (finals.IncDec n op k) h =
    let x = and_parts (is_index n) (change_key_fits k) h in
    let key = tokens_in (key_pieces k) in
    numbered (codes "IncDecM") (Both AChange ChangeKey) n (Word (inc_dec_name op) ∷ key) (op, k) x.0
    (spelled_both AChange ChangeKey (Word (inc_dec_name op) ∷ []) key (op, k) refl (change_key k x.1))
final_spelled depth (finals.Unset n k) h =
    let x = and_parts (is_index n) (change_key_fits k) h in
    numbered (codes "UnsetM") ChangeKey n (tokens_in (key_pieces k)) k x.0 (change_key k x.1)

-- ---- sequences

implies : (a b : Bool) → not a || b ≡ true → a ≡ true → b ≡ true
implies true b h e = h
implies false b h e = absurd (false≢true e)

pub member_spelled : (depth : ℕ) (m : MemberSeqParts) → member_fits m ≡ true
    → AMemberSeq (tokens_in (base_pieces depth m.base ++ (flat_map (dim_pieces depth) m.dims ++ final_pieces depth m.last))) m
member_spelled depth m h =
    let dims = list_all query_key_fits m.dims in
    let safe = not (list_any is_nullsafe m.dims) || is_query m.last in
    let x = and_parts (base_fits m.base) (dims && (final_fits m.last && safe)) h in
    let y = and_parts dims (final_fits m.last && safe) x.1 in
    let z = and_parts (final_fits m.last) safe y.1 in
    let base = base_pieces depth m.base in
    let keys = flat_map (dim_pieces depth) m.dims in
    let final = final_pieces depth m.last in
    record {
      word = pieces_both ABase (Both (Many ADim) AFinal) base (keys ++ final) (m.base, (m.dims, m.last)) (base_spelled depth m.base x.0)
          (pieces_both (Many ADim) AFinal keys final (m.dims, m.last) (pieces_many ADim (dim_pieces depth) query_key_fits (dim_spelled depth) m.dims y.0)
          (final_spelled depth m.last z.0));
      nullsafe = implies (list_any is_nullsafe m.dims) (is_query m.last) z.1;
    }
