-- The tokens of codes and positions that fit are clear in their canonical text.
use Rattle.std.proofs.Common.{◌≡◌, ℕ, true, List, [], ◌∷◌, Option, Some, None, codes, pos, refl}
use Rattle.std.specs.List.{list_all, flat_map}
use Rattle.std.proofs.lemmas.Bool.{and_parts, false≢true}
use Rattle.hhas_lex.specs.Spelling.{is_word}
use Rattle.hhas_lex.specs.Tokens.{Word, Local, Integer, Str}
use Rattle.hhbc_ops.specs.declared.op.Op.{Op}
use Rattle.hhbc_ops.specs.declared.words.ImmKind.{ImmKind}
use Rattle.hhbc_ops.specs.declared.words.ImmKind.TheVariants as kinds
use Rattle.hhbc_ops.specs.Ops.{kinds_of, op_name}
use Rattle.hhbc_ops.specs.Words.{set_op_name, inc_dec_name, is_type_name}
use Rattle.type_lattice.specs.InRange.{where_there}
use Rattle.type_lattice.specs.Keep.{is_constraint}
use Rattle.hhbc_repo.specs.declared.parts.AssertParts.{AssertParts}
use Rattle.hhbc_repo.specs.declared.parts.AssertParts.TheVariants as claims
use Rattle.hhbc_repo.specs.declared.parts.CodeParts.{CodeParts}
use Rattle.hhbc_repo.specs.declared.parts.CodeParts.TheVariants as forms
use Rattle.hhbc_repo.specs.declared.parts.ImmParts.{ImmParts}
use Rattle.hhbc_repo.specs.declared.parts.ImmParts.TheVariants as imms
use Rattle.hhbc_repo.specs.declared.parts.PositionParts.{PositionParts}
use Rattle.hhbc_repo.specs.CanonicalText.{spaced, type_pieces, is_text_switch, tagged, key_local, operand_pieces, code_pieces, assert_pieces, position_pieces}
use Rattle.hhbc_repo.specs.TypeFits.{type_fits}
use Rattle.hhbc_repo.specs.Fits.{is_index, operand_fits, operands_fit, code_fits, assert_fits, position_fits}
use Rattle.hhbc_repo.proofs.ArmsClear.{label_word, arms_proper, text_arms_proper, switch_clear}
use Rattle.hhbc_repo.proofs.Clearing.{Clear, clear_none, clear_both, clear_each}
use Rattle.hhbc_repo.proofs.MembersClear.{member_clear}
use Rattle.hhbc_repo.proofs.OpWords.{op_word, set_op_word, inc_dec_word, is_type_word}
use Rattle.hhbc_repo.proofs.PiecesClear.{index_proper, line_clear, spaced_clear, token_clear, tagged_clear}
use Rattle.hhbc_repo.proofs.TypesClear.{type_clear}

-- ---- operands

key_local_clear : (k : Option (List ℕ)) → where_there is_word k ≡ true → Clear (key_local k)
key_local_clear None h = clear_none
key_local_clear (Some l) h = tagged_clear (codes "K") (Local l) refl h

operand_clear : (op : Op) (k : ImmKind) (m : ImmParts) → operand_fits k m ≡ true → Clear (operand_pieces op m)
operand_clear op kinds.Int (imms.Int i) h = token_clear (Integer i) h
operand_clear op kinds.Count (imms.Count n) h = token_clear (Integer (pos n)) (index_proper n h)
operand_clear op kinds.Str (imms.Str s) h = token_clear (Str s) h
operand_clear op kinds.Name (imms.Name w) h = token_clear (Word w) h
operand_clear op kinds.Local (imms.Local w) h = token_clear (Local w) h
operand_clear op kinds.Iter (imms.Iter n) h = token_clear (Integer (pos n)) (index_proper n h)
operand_clear op kinds.Label (imms.Pos w) h = token_clear (Word w) (label_word w h)
operand_clear op kinds.Class (imms.Class w) h = token_clear (Word w) h
operand_clear op kinds.IncDec (imms.IncDec change) h = token_clear (Word (inc_dec_name change)) (inc_dec_word change)
operand_clear op kinds.SetOp (imms.SetOp set_op) h = token_clear (Word (set_op_name set_op)) (set_op_word set_op)
operand_clear op kinds.IsType (imms.IsType kind) h = token_clear (Word (is_type_name kind)) (is_type_word kind)
operand_clear op kinds.Constraint (imms.Constraint t) h = type_clear t (and_parts (type_fits t) (is_constraint t.t) h).0
operand_clear op kinds.Switch (imms.Arms arms) h = switch_clear (is_text_switch op) arms (arms_proper arms h)
operand_clear op kinds.SSwitch (imms.Arms arms) h = switch_clear (is_text_switch op) arms (text_arms_proper arms h)
operand_clear op kinds.IterLocals (imms.IterLocals k v) h =
    let x = and_parts (where_there is_word k) (is_word v) h in
    clear_both (key_local k) (tagged (codes "V") (Local v)) (key_local_clear k x.0) (tagged_clear (codes "V") (Local v) refl x.1)
operand_clear op _ _ h = absurd (false≢true h)

operands_clear : (op : Op) (ks : List ImmKind) (ms : List ImmParts) → operands_fit ks ms ≡ true → Clear (flat_map (operand_pieces op) ms)
operands_clear op [] [] h = clear_none
operands_clear op [] (m ∷ ms) h = absurd (false≢true h)
operands_clear op (k ∷ ks) [] h = absurd (false≢true h)
operands_clear op (k ∷ ks) (m ∷ ms) h =
    let x = and_parts (operand_fits k m) (operands_fit ks ms) h in
    clear_both (operand_pieces op m) (flat_map (operand_pieces op) ms) (operand_clear op k m x.0) (operands_clear op ks ms x.1)

-- ---- codes and positions

code_clear : (depth : ℕ) (c : CodeParts) → code_fits c ≡ true → Clear (code_pieces depth c)
code_clear depth (forms.Plain i) h =
    line_clear depth (Word (op_name i.op)) (flat_map (operand_pieces i.op) i.imms) (op_word i.op) (operands_clear i.op (kinds_of i.op) i.imms h (Word (op_name i.op)))
code_clear depth (forms.Member m) h = member_clear depth m h

assert_clear : (depth : ℕ) (a : AssertParts) → assert_fits a ≡ true → Clear (assert_pieces depth a)
assert_clear depth (claims.Local l t) h =
    let x = and_parts (is_word l) (type_fits t) h in
    line_clear depth (Word (codes "AssertRATL")) (spaced (Local l) ∷ type_pieces t) refl
    (spaced_clear (Local l) (type_pieces t) x.0 (type_clear t x.1 (Local l)) (Word (codes "AssertRATL")))
assert_clear depth (claims.Stack n t) h =
    let x = and_parts (is_index n) (type_fits t) h in
    line_clear depth (Word (codes "AssertRATStk")) (spaced (Integer (pos n)) ∷ type_pieces t) refl
    (spaced_clear (Integer (pos n)) (type_pieces t) (index_proper n x.0) (type_clear t x.1 (Integer (pos n))) (Word (codes "AssertRATStk")))

pub position_clear : (depth : ℕ) (p : PositionParts) → position_fits p ≡ true → Clear (position_pieces depth p)
position_clear depth p h =
    let x = and_parts (list_all assert_fits p.asserts) (code_fits p.code) h in
    clear_both (flat_map (assert_pieces depth) p.asserts) (code_pieces depth p.code)
    (clear_each (assert_pieces depth) assert_fits (assert_clear depth) p.asserts x.0) (code_clear depth p.code x.1)
