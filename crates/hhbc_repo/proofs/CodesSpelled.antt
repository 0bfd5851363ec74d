-- Codes and positions that fit are spelled by the tokens of their canonical text.
use Rattle.std.proofs.Common.{◌≡◌, ℕ, Bool, true, not, List, [], ◌∷◌, ◌++◌, Option, Some, None, codes, pos, refl, sym, subst}
use Rattle.std.specs.List.{list_all, flat_map}
use Rattle.std.proofs.lemmas.Bool.{and_parts, not-true, false≢true}
use Rattle.hhas_lex.specs.Spelling.{is_word}
use Rattle.hhas_lex.specs.Tokens.{Word, Local, Integer, Mark}
use Rattle.hhbc_ops.specs.declared.op.Op.{Op}
use Rattle.hhbc_ops.specs.declared.op.Op.TheVariants as ops
use Rattle.hhbc_ops.specs.declared.words.ImmKind.{ImmKind}
use Rattle.hhbc_ops.specs.declared.words.ImmKind.TheVariants as kinds
use Rattle.hhbc_ops.specs.Ops.{kinds_of, op_name}
use Rattle.hhbc_repo.specs.declared.parts.AssertParts.{AssertParts}
use Rattle.hhbc_repo.specs.declared.parts.AssertParts.TheVariants as claims
use Rattle.hhbc_repo.specs.declared.parts.CodeParts.{CodeParts}
use Rattle.hhbc_repo.specs.declared.parts.CodeParts.TheVariants as forms
use Rattle.hhbc_repo.specs.declared.parts.ImmParts.{ImmParts}
use Rattle.hhbc_repo.specs.declared.parts.ImmParts.TheVariants as imms
use Rattle.hhbc_repo.specs.declared.parts.PositionParts.{PositionParts}
use Rattle.hhbc_repo.specs.declared.parts.TypeParts.{TypeParts}
use Rattle.hhbc_repo.specs.Languages.{Behind, Both, Many, Perhaps}
use Rattle.hhbc_repo.specs.CodeSyntax.{ALocal, AnIndex, IterLocals, Operand, Operands, ACode}
use Rattle.hhbc_repo.specs.BodySyntax.{AnAssert, APosition}
use Rattle.hhbc_repo.specs.TypeSyntax.{AType, AConstraint}
use Rattle.hhbc_repo.specs.CanonicalText.{type_pieces, is_text_switch, tagged, key_local, operand_pieces, code_pieces, assert_pieces, position_pieces}
use Rattle.hhbc_repo.specs.TypeFits.{type_fits, constraint_fits}
use Rattle.hhbc_repo.specs.Fits.{is_index, operand_fits, operands_fit, code_fits, assert_fits, position_fits}
use Rattle.hhbc_repo.proofs.ArmsSpelled.{label_spelled, switch_spelled, text_switch_spelled}
use Rattle.hhbc_repo.proofs.Clearing.{tokens_in}
use Rattle.hhbc_repo.proofs.MembersSpelled.{member_spelled}
use Rattle.hhbc_repo.proofs.PiecesSpelled.{tokens_both, spelled_behind, spelled_both, pieces_both, pieces_many, index_spelled}
use Rattle.hhbc_repo.proofs.TypesClear.{type_pieces_tokens}
use Rattle.hhbc_repo.proofs.TypesWritten.{type_spelled, constraint_spelled}

-- ---- types

pub a_type : (t : TypeParts) → type_fits t ≡ true → AType (tokens_in (type_pieces t)) t
a_type t h = subst (λ ts. AType ts t) (sym (type_pieces_tokens t)) (type_spelled t h)

a_constraint : (t : TypeParts) → constraint_fits t ≡ true → AConstraint (tokens_in (type_pieces t)) t
a_constraint t h = subst (λ ts. AConstraint ts t) (sym (type_pieces_tokens t)) (constraint_spelled t h)

-- ---- operands

iter_key : (k : Option (List ℕ)) → Perhaps (Behind (Word (codes "K") ∷ Mark 58 ∷ []) ALocal) (tokens_in (key_local k)) k
iter_key None = refl
iter_key (Some l) = spelled_behind (Word (codes "K") ∷ Mark 58 ∷ []) (Local l ∷ []) ALocal l refl

iter_locals : (k : Option (List ℕ)) (v : List ℕ) → IterLocals (tokens_in (key_local k ++ tagged (codes "V") (Local v))) (k, v)
iter_locals k v =
    pieces_both (Perhaps (Behind (Word (codes "K") ∷ Mark 58 ∷ []) ALocal)) (Behind (Word (codes "V") ∷ Mark 58 ∷ []) ALocal) (key_local k) (tagged (codes "V") (Local v)) (k, v)
    (iter_key k) (spelled_behind (Word (codes "V") ∷ Mark 58 ∷ []) (Local v ∷ []) ALocal v refl)

-- operands of an instruction are arms with strings where it is the switch on strings alone
abbrev suits : Bool → ImmKind → Bool
suits by_text kinds.Switch = not by_text
suits by_text kinds.SSwitch = by_text
suits by_text _ = true

op_suits : (op : Op) → list_all (suits (is_text_switch op)) (kinds_of op) ≡ true
op_suits ops.Nop = refl
op_suits _ = refl

operand_spelled : (op : Op) (k : ImmKind) (m : ImmParts) → operand_fits k m ≡ true → suits (is_text_switch op) k ≡ true → Operand k (tokens_in (operand_pieces op m)) m
operand_spelled op kinds.Int (imms.Int i) h s = refl
operand_spelled op kinds.Count (imms.Count n) h s = index_spelled n h
operand_spelled op kinds.Str (imms.Str t) h s = refl
operand_spelled op kinds.Name (imms.Name w) h s = refl
operand_spelled op kinds.Local (imms.Local w) h s = refl
operand_spelled op kinds.Iter (imms.Iter n) h s = index_spelled n h
operand_spelled op kinds.Label (imms.Pos w) h s = label_spelled w h
operand_spelled op kinds.Class (imms.Class w) h s = refl
operand_spelled op kinds.IncDec (imms.IncDec change) h s = refl
operand_spelled op kinds.SetOp (imms.SetOp set_op) h s = refl
operand_spelled op kinds.IsType (imms.IsType kind) h s = refl
operand_spelled op kinds.Constraint (imms.Constraint t) h s = a_constraint t h
operand_spelled op kinds.Switch (imms.Arms arms) h s = switch_spelled (is_text_switch op) arms (not-true (is_text_switch op) s) h
operand_spelled op kinds.SSwitch (imms.Arms arms) h s = text_switch_spelled (is_text_switch op) arms s h
operand_spelled op kinds.IterLocals (imms.IterLocals k v) h s = iter_locals k v
operand_spelled op _ _ h s = absurd (false≢true h)

operands_spelled : (op : Op) (ks : List ImmKind) (ms : List ImmParts) → operands_fit ks ms ≡ true → list_all (suits (is_text_switch op)) ks ≡ true
    → Operands ks (tokens_in (flat_map (operand_pieces op) ms)) ms
operands_spelled op [] [] h s = refl
operands_spelled op [] (m ∷ ms) h s = absurd (false≢true h)
operands_spelled op (k ∷ ks) [] h s = absurd (false≢true h)
operands_spelled op (k ∷ ks) (m ∷ ms) h s =
    let x = and_parts (operand_fits k m) (operands_fit ks ms) h in
    let y = and_parts (suits (is_text_switch op) k) (list_all (suits (is_text_switch op)) ks) s in
    let here = operand_pieces op m in
    let more = flat_map (operand_pieces op) ms in
    (tokens_in here, tokens_in more, operand_spelled op k m x.0 y.0, operands_spelled op ks ms x.1 y.1, tokens_both here more)

-- ---- codes and positions

code_spelled : (depth : ℕ) (c : CodeParts) → code_fits c ≡ true → ACode (tokens_in (code_pieces depth c)) c
code_spelled depth (forms.Plain i) h =
    spelled_behind (Word (op_name i.op) ∷ []) (tokens_in (flat_map (operand_pieces i.op) i.imms)) (Operands (kinds_of i.op)) i.imms
    (operands_spelled i.op (kinds_of i.op) i.imms h (op_suits i.op))
code_spelled depth (forms.Member m) h = member_spelled depth m h

assert_spelled : (depth : ℕ) (a : AssertParts) → assert_fits a ≡ true → AnAssert (tokens_in (assert_pieces depth a)) a
assert_spelled depth (claims.Local l t) h =
    let x = and_parts (is_word l) (type_fits t) h in
    let ts = tokens_in (type_pieces t) in
    spelled_behind (Word (codes "AssertRATL") ∷ []) (Local l ∷ ts) (Both ALocal AType) (l, t) (spelled_both ALocal AType (Local l ∷ []) ts (l, t) refl (a_type t x.1))
assert_spelled depth (claims.Stack n t) h =
    let x = and_parts (is_index n) (type_fits t) h in
    let ts = tokens_in (type_pieces t) in
    spelled_behind (Word (codes "AssertRATStk") ∷ []) (Integer (pos n) ∷ ts) (Both AnIndex AType) (n, t)
    (spelled_both AnIndex AType (Integer (pos n) ∷ []) ts (n, t) (index_spelled n x.0) (a_type t x.1))

pub position_spelled : (depth : ℕ) (p : PositionParts) → position_fits p ≡ true → APosition (tokens_in (position_pieces depth p)) p
position_spelled depth p h =
    let x = and_parts (list_all assert_fits p.asserts) (code_fits p.code) h in
    pieces_both (Many AnAssert) ACode (flat_map (assert_pieces depth) p.asserts) (code_pieces depth p.code) (p.asserts, p.code)
    (pieces_many AnAssert (assert_pieces depth) assert_fits (assert_spelled depth) p.asserts x.0) (code_spelled depth p.code x.1)
