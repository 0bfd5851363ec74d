-- How codes are spelled: plain instructions by the kinds of their operands, and member sequences.
use Rattle.std.specs.Prelude.{◌≡◌, ◌≤◌, ℕ, ℤ, Bool, true, false, ◌||◌, List, [], ◌∷◌, ◌++◌, Option, Some, None, is_some, codes, pos}
use Rattle.std.specs.List.{list_any}
use Rattle.std.specs.Str.{bytes_eq}
use Rattle.hhas_lex.specs.Tokens.{Token, Word, Local, Integer, Str, Mark}
use Rattle.hhbc_ops.specs.declared.words.ImmKind.{ImmKind}
use Rattle.hhbc_ops.specs.declared.words.ImmKind.TheVariants as kinds
use Rattle.hhbc_ops.specs.declared.words.QueryMode.{QueryMode}
use Rattle.hhbc_ops.specs.declared.words.SetOpOp.{SetOpOp}
use Rattle.hhbc_ops.specs.declared.words.IncDecOp.{IncDecOp}
use Rattle.hhbc_ops.specs.Ops.{op_name, kinds_of, op_called}
use Rattle.hhbc_ops.specs.Words.{set_op_name, inc_dec_name, query_mode_name, is_type_name}
use Rattle.hhbc_repo.specs.declared.parts.ArmParts.{ArmParts}
use Rattle.hhbc_repo.specs.declared.parts.CodeParts.{CodeParts}
use Rattle.hhbc_repo.specs.declared.parts.CodeParts.TheVariants as forms
use Rattle.hhbc_repo.specs.declared.parts.InstrParts.{InstrParts}
use Rattle.hhbc_repo.specs.declared.parts.ImmParts.{ImmParts}
use Rattle.hhbc_repo.specs.declared.parts.ImmParts.TheVariants as imms
use Rattle.hhbc_repo.specs.declared.parts.MemberSeqParts.{MemberSeqParts}
use Rattle.hhbc_repo.specs.declared.parts.BaseParts.{BaseParts}
use Rattle.hhbc_repo.specs.declared.parts.BaseParts.TheVariants as bases
use Rattle.hhbc_repo.specs.declared.parts.MemberKeyParts.{MemberKeyParts}
use Rattle.hhbc_repo.specs.declared.parts.MemberKeyParts.TheVariants as keys
use Rattle.hhbc_repo.specs.declared.parts.FinalParts.{FinalParts}
use Rattle.hhbc_repo.specs.declared.parts.FinalParts.TheVariants as finals
use Rattle.hhbc_repo.specs.Languages.{Lang, Behind, Ended, Both, Many, Perhaps}
use Rattle.hhbc_repo.specs.TypeSyntax.{AConstraint}

-- ---- single tokens with a value

abbrev pub AWord : Lang (List ℕ)
AWord ts w = ts ≡ Word w ∷ []

abbrev pub ALocal : Lang (List ℕ)
ALocal ts w = ts ≡ Local w ∷ []

abbrev pub AString : Lang (List ℕ)
AString ts s = ts ≡ Str s ∷ []

abbrev pub AnInteger : Lang ℤ
AnInteger ts i = ts ≡ Integer i ∷ []

-- an integer from 0 to the number
abbrev pub UpTo : ℕ → Lang ℕ
UpTo most ts n = (ts ≡ Integer (pos n) ∷ []) × (n ≤ most)

abbrev pub AnIndex : Lang ℕ
AnIndex = UpTo 254

-- the words of assertions and of member sequences
unfoldable pub other_names : List (List ℕ)
other_names =
    codes "AssertRATL" ∷ codes "AssertRATStk" ∷ codes "BaseL" ∷ codes "BaseC" ∷ codes "BaseH" ∷ codes "Dim"
    ∷ codes "QueryM" ∷ codes "SetM" ∷ codes "SetOpM" ∷ codes "IncDecM" ∷ codes "UnsetM" ∷ []

-- whether a word names an instruction, a base, Dim, a final or an assertion, and so no position
abbrev pub is_reserved : List ℕ → Bool
is_reserved w = is_some (op_called w) || list_any (λ other. bytes_eq other w) other_names

abbrev pub ALabel : Lang (List ℕ)
ALabel ts w = (ts ≡ Word w ∷ []) × (is_reserved w ≡ false)

-- ---- operands

-- an arm of a switch on ints
abbrev pub AnArm : Lang ArmParts
AnArm ts a = ALabel ts a.target × (a.text ≡ None)

abbrev pub TextArm : List Token → ArmParts → List ℕ → Type 0
TextArm ts a s = (a.text ≡ Some s) × Behind (Str s ∷ Mark 58 ∷ []) (Ended ALabel (Mark 44 ∷ [])) ts a.target

-- an arm of a switch on strings
abbrev pub AStringArm : Lang ArmParts
AStringArm ts a = (s : List ℕ) × TextArm ts a s

-- the arm for all other strings
abbrev pub ADefault : Lang ArmParts
ADefault ts a = Behind (Word (codes "default") ∷ Mark 58 ∷ []) ALabel ts a.target × (a.text ≡ None)

-- arms, one or more
abbrev pub Arms : Lang (List ArmParts)
Arms ts [] = ⊥
Arms ts (a ∷ more) = Many AnArm ts (a ∷ more)

-- arms with strings, and the default
abbrev pub StringArms : Lang (List ArmParts)
StringArms ts [] = ⊥
StringArms ts (a ∷ []) = ADefault ts a
StringArms ts (a ∷ b ∷ more) = (x y : List Token) × AStringArm x a × StringArms y (b ∷ more) × (ts ≡ x ++ y)

-- "K" ":" and a local, or nothing, and "V" ":" and a local
abbrev pub IterLocals : Lang (Option (List ℕ) × List ℕ)
IterLocals = Both (Perhaps (Behind (Word (codes "K") ∷ Mark 58 ∷ []) ALocal)) (Behind (Word (codes "V") ∷ Mark 58 ∷ []) ALocal)

-- one operand, of a kind
abbrev pub Operand : ImmKind → Lang ImmParts
Operand kinds.Int ts (imms.Int i) = AnInteger ts i
Operand kinds.Count ts (imms.Count n) = AnIndex ts n
Operand kinds.Str ts (imms.Str s) = AString ts s
Operand kinds.Name ts (imms.Name w) = AWord ts w
Operand kinds.Local ts (imms.Local w) = ALocal ts w
Operand kinds.Iter ts (imms.Iter n) = AnIndex ts n
Operand kinds.Label ts (imms.Pos w) = ALabel ts w
Operand kinds.Class ts (imms.Class w) = AWord ts w
Operand kinds.IncDec ts (imms.IncDec op) = ts ≡ Word (inc_dec_name op) ∷ []
Operand kinds.SetOp ts (imms.SetOp op) = ts ≡ Word (set_op_name op) ∷ []
Operand kinds.IsType ts (imms.IsType op) = ts ≡ Word (is_type_name op) ∷ []
Operand kinds.Constraint ts (imms.Constraint t) = AConstraint ts t
Operand kinds.Switch ts (imms.Arms arms) = Behind (Mark 60 ∷ []) (Ended Arms (Mark 62 ∷ [])) ts arms
Operand kinds.SSwitch ts (imms.Arms arms) = Behind (Mark 60 ∷ []) (Ended StringArms (Mark 62 ∷ [])) ts arms
Operand kinds.IterLocals ts (imms.IterLocals k v) = IterLocals ts (k, v)
Operand _ ts _ = ⊥

-- operands of these kinds, in order
abbrev pub Operands : List ImmKind → Lang (List ImmParts)
Operands [] ts [] = ts ≡ []
Operands [] ts (m ∷ ms) = ⊥
Operands (k ∷ ks) ts [] = ⊥
Operands (k ∷ ks) ts (m ∷ ms) = (a b : List Token) × Operand k a m × Operands ks b ms × (ts ≡ a ++ b)

-- the name of an instruction, and its operands
abbrev pub AnInstruction : Lang InstrParts
AnInstruction ts i = Behind (Word (op_name i.op) ∷ []) (Operands (kinds_of i.op)) ts i.imms

-- ---- member sequences

abbrev pub ABase : Lang BaseParts
ABase ts (bases.Local w) = Behind (Word (codes "BaseL") ∷ []) ALocal ts w
ABase ts (bases.Stack n) = Behind (Word (codes "BaseC") ∷ []) AnIndex ts n
ABase ts bases.This = ts ≡ Word (codes "BaseH") ∷ []

abbrev pub AKey : Lang MemberKeyParts
AKey ts (keys.ElemStack n) = Behind (Word (codes "EC") ∷ Mark 58 ∷ []) AnIndex ts n
AKey ts (keys.ElemLocal w) = Behind (Word (codes "EL") ∷ Mark 58 ∷ []) ALocal ts w
AKey ts (keys.ElemText s) = Behind (Word (codes "ET") ∷ Mark 58 ∷ []) AString ts s
AKey ts (keys.ElemInt i) = Behind (Word (codes "EI") ∷ Mark 58 ∷ []) AnInteger ts i
AKey ts (keys.PropStack n) = Behind (Word (codes "PC") ∷ Mark 58 ∷ []) AnIndex ts n
AKey ts (keys.PropLocal w) = Behind (Word (codes "PL") ∷ Mark 58 ∷ []) ALocal ts w
AKey ts (keys.PropName w) = Behind (Word (codes "PT") ∷ Mark 58 ∷ []) AWord ts w
AKey ts (keys.NullsafeName w) = Behind (Word (codes "QT") ∷ Mark 58 ∷ []) AWord ts w
AKey ts keys.Append = ts ≡ Word (codes "W") ∷ []

abbrev pub is_append : MemberKeyParts → Bool
is_append keys.Append = true
is_append _ = false

abbrev pub is_nullsafe : MemberKeyParts → Bool
is_nullsafe (keys.NullsafeName w) = true
is_nullsafe _ = false

-- W is a key of SetM alone, and QT one of sequences that end with QueryM alone
abbrev pub QueryKey : Lang MemberKeyParts
QueryKey ts k = AKey ts k × (is_append k ≡ false)

abbrev pub SetKey : Lang MemberKeyParts
SetKey ts k = AKey ts k × (is_nullsafe k ≡ false)

abbrev pub ChangeKey : Lang MemberKeyParts
ChangeKey ts k = AKey ts k × (is_append k ≡ false) × (is_nullsafe k ≡ false)

abbrev pub ADim : Lang MemberKeyParts
ADim = Behind (Word (codes "Dim") ∷ []) QueryKey

abbrev pub AMode : Lang QueryMode
AMode ts m = ts ≡ Word (query_mode_name m) ∷ []

abbrev pub ASetOp : Lang SetOpOp
ASetOp ts op = ts ≡ Word (set_op_name op) ∷ []

abbrev pub AChange : Lang IncDecOp
AChange ts op = ts ≡ Word (inc_dec_name op) ∷ []

abbrev pub AFinal : Lang FinalParts
AFinal ts (finals.Query n mode k) = Behind (Word (codes "QueryM") ∷ []) (Both AnIndex (Both AMode QueryKey)) ts (n, (mode, k))
AFinal ts (finals.Set n k) = Behind (Word (codes "SetM") ∷ []) (Both AnIndex SetKey) ts (n, k)
AFinal ts (finals.SetOp n op k) = Behind (Word (codes "SetOpM") ∷ []) (Both AnIndex (Both ASetOp ChangeKey)) ts (n, (op, k))
AFinal ts (finals.IncDec n op k) = Behind (Word (codes "IncDecM") ∷ []) (Both AnIndex (Both AChange ChangeKey)) ts (n, (op, k))
AFinal ts (finals.Unset n k) = Behind (Word (codes "UnsetM") ∷ []) (Both AnIndex ChangeKey) ts (n, k)

abbrev pub is_query : FinalParts → Bool
is_query (finals.Query n mode k) = true
is_query _ = false

-- a base, keys with Dim, and a final, which is QueryM where a key is null-safe
pub record AMemberSeq (ts : List Token) (m : MemberSeqParts) : Type 0 where
  pub word : Both ABase (Both (Many ADim) AFinal) ts (m.base, (m.dims, m.last))
  pub nullsafe : list_any is_nullsafe m.dims ≡ true → is_query m.last ≡ true

abbrev pub ACode : Lang CodeParts
ACode ts (forms.Plain i) = AnInstruction ts i
ACode ts (forms.Member m) = AMemberSeq ts m
