-- Parts that some text spells, as a test: words, integers, strings and indices within their ranges, operands of the kinds of their
-- instruction, W and QT where they may stand, and try bodies that are closed and have a code.
use Rattle.std.specs.Prelude.{ℕ, Bool, true, false, not, ◌&&◌, ◌||◌, nat_le, List, [], ◌∷◌, Option, Some, None}
use Rattle.std.specs.List.{list_all, list_any}
use Rattle.hhas_lex.specs.Shape.{is_int64}
use Rattle.hhas_lex.specs.Spelling.{is_string, is_word}
use Rattle.hack_values.specs.declared.cell.Cell.{Cell}
use Rattle.hack_values.specs.declared.cell.Cell.TheVariants as cells
use Rattle.hhbc_ops.specs.declared.words.ImmKind.{ImmKind}
use Rattle.hhbc_ops.specs.declared.words.ImmKind.TheVariants as kinds
use Rattle.hhbc_ops.specs.Ops.{kinds_of}
use Rattle.type_lattice.specs.InRange.{where_there}
use Rattle.hhbc_repo.specs.declared.repo.Const.{Const}
use Rattle.hhbc_repo.specs.declared.parts.ArmParts.{ArmParts}
use Rattle.hhbc_repo.specs.declared.parts.AssertParts.{AssertParts}
use Rattle.hhbc_repo.specs.declared.parts.AssertParts.TheVariants as claims
use Rattle.hhbc_repo.specs.declared.parts.BaseParts.{BaseParts}
use Rattle.hhbc_repo.specs.declared.parts.BaseParts.TheVariants as bases
use Rattle.hhbc_repo.specs.declared.parts.BodyParts.{BodyParts}
use Rattle.hhbc_repo.specs.declared.parts.ClassParts.{ClassParts}
use Rattle.hhbc_repo.specs.declared.parts.CodeParts.{CodeParts}
use Rattle.hhbc_repo.specs.declared.parts.CodeParts.TheVariants as forms
use Rattle.hhbc_repo.specs.declared.parts.FinalParts.{FinalParts}
use Rattle.hhbc_repo.specs.declared.parts.FinalParts.TheVariants as finals
use Rattle.hhbc_repo.specs.declared.parts.ImmParts.{ImmParts}
use Rattle.hhbc_repo.specs.declared.parts.ImmParts.TheVariants as imms
use Rattle.hhbc_repo.specs.declared.parts.ItemParts.{ItemParts}
use Rattle.hhbc_repo.specs.declared.parts.ItemParts.TheVariants as items
use Rattle.hhbc_repo.specs.declared.parts.MemberKeyParts.{MemberKeyParts}
use Rattle.hhbc_repo.specs.declared.parts.MemberKeyParts.TheVariants as keys
use Rattle.hhbc_repo.specs.declared.parts.MemberSeqParts.{MemberSeqParts}
use Rattle.hhbc_repo.specs.declared.parts.PositionParts.{PositionParts}
use Rattle.hhbc_repo.specs.declared.parts.PropertyParts.{PropertyParts}
use Rattle.hhbc_repo.specs.CodeSyntax.{is_append, is_nullsafe, is_query, is_reserved}
use Rattle.hhbc_repo.specs.TypeFits.{constraint_fits, type_fits}

-- ---- operands

abbrev pub is_index : ℕ → Bool
is_index n = nat_le n 254

abbrev pub is_label : List ℕ → Bool
is_label w = is_word w && not (is_reserved w)

abbrev pub has_no_text : Option (List ℕ) → Bool
has_no_text None = true
has_no_text (Some s) = false

abbrev pub has_text : Option (List ℕ) → Bool
has_text None = false
has_text (Some s) = is_string s

-- an arm without a text, and one with
abbrev pub arm_fits : ArmParts → Bool
arm_fits a = is_label a.target && has_no_text a.text

abbrev pub text_arm_fits : ArmParts → Bool
text_arm_fits a = is_label a.target && has_text a.text

abbrev pub arms_fit : List ArmParts → Bool
arms_fit [] = false
arms_fit (a ∷ more) = list_all arm_fits (a ∷ more)

-- the last of them is the default
abbrev pub text_arms_fit : List ArmParts → Bool
text_arms_fit [] = false
text_arms_fit (a ∷ []) = arm_fits a
text_arms_fit (a ∷ b ∷ more) = text_arm_fits a && text_arms_fit (b ∷ more)

abbrev pub operand_fits : ImmKind → ImmParts → Bool
operand_fits kinds.Int (imms.Int i) = is_int64 i
operand_fits kinds.Count (imms.Count n) = is_index n
operand_fits kinds.Str (imms.Str s) = is_string s
operand_fits kinds.Name (imms.Name w) = is_word w
operand_fits kinds.Local (imms.Local w) = is_word w
operand_fits kinds.Iter (imms.Iter n) = is_index n
operand_fits kinds.Label (imms.Pos w) = is_label w
operand_fits kinds.Class (imms.Class w) = is_word w
operand_fits kinds.IncDec (imms.IncDec op) = true
operand_fits kinds.SetOp (imms.SetOp op) = true
operand_fits kinds.IsType (imms.IsType op) = true
operand_fits kinds.Constraint (imms.Constraint t) = constraint_fits t
operand_fits kinds.Switch (imms.Arms arms) = arms_fit arms
operand_fits kinds.SSwitch (imms.Arms arms) = text_arms_fit arms
operand_fits kinds.IterLocals (imms.IterLocals k v) = where_there is_word k && is_word v
operand_fits _ _ = false

abbrev pub operands_fit : List ImmKind → List ImmParts → Bool
operands_fit [] [] = true
operands_fit [] (m ∷ ms) = false
operands_fit (k ∷ ks) [] = false
operands_fit (k ∷ ks) (m ∷ ms) = operand_fits k m && operands_fit ks ms

-- ---- member sequences

abbrev pub base_fits : BaseParts → Bool
base_fits (bases.Local w) = is_word w
base_fits (bases.Stack n) = is_index n
base_fits bases.This = true

abbrev pub key_fits : MemberKeyParts → Bool
key_fits (keys.ElemStack n) = is_index n
key_fits (keys.ElemLocal w) = is_word w
key_fits (keys.ElemText s) = is_string s
key_fits (keys.ElemInt i) = is_int64 i
key_fits (keys.PropStack n) = is_index n
key_fits (keys.PropLocal w) = is_word w
key_fits (keys.PropName w) = is_word w
key_fits (keys.NullsafeName w) = is_word w
key_fits keys.Append = true

abbrev pub query_key_fits : MemberKeyParts → Bool
query_key_fits k = key_fits k && not (is_append k)

abbrev pub set_key_fits : MemberKeyParts → Bool
set_key_fits k = key_fits k && not (is_nullsafe k)

abbrev pub change_key_fits : MemberKeyParts → Bool
change_key_fits k = key_fits k && (not (is_append k) && not (is_nullsafe k))

abbrev pub final_fits : FinalParts → Bool
final_fits (finals.Query n mode k) = is_index n && query_key_fits k
final_fits (finals.Set n k) = is_index n && set_key_fits k
final_fits (finals.SetOp n op k) = is_index n && change_key_fits k
final_fits (finals.IncDec n op k) = is_index n && change_key_fits k
final_fits (finals.Unset n k) = is_index n && change_key_fits k

-- where a key is null-safe, the final is QueryM
abbrev pub member_fits : MemberSeqParts → Bool
member_fits m =
    base_fits m.base && (list_all query_key_fits m.dims && (final_fits m.last && (not (list_any is_nullsafe m.dims) || is_query m.last)))

abbrev pub code_fits : CodeParts → Bool
code_fits (forms.Plain i) = operands_fit (kinds_of i.op) i.imms
code_fits (forms.Member m) = member_fits m

-- ---- bodies

abbrev pub assert_fits : AssertParts → Bool
assert_fits (claims.Local name t) = is_word name && type_fits t
assert_fits (claims.Stack n t) = is_index n && type_fits t

abbrev pub position_fits : PositionParts → Bool
position_fits p = list_all assert_fits p.asserts && code_fits p.code

abbrev pub item_fits : ItemParts → Bool
item_fits (items.Label w) = is_label w
item_fits (items.Position p) = position_fits p
item_fits items.Try = true
item_fits items.Catch = true
item_fits items.End = true

-- a body that is open
pub data Open : Type 0 where
  InTry : Open
  InCatch : Open

-- the items close the open bodies, the innermost first, each behind a code; whether the innermost still wants one
abbrev pub nests : List ItemParts → List Open → Bool → Bool
nests [] [] wants = true
nests [] (o ∷ os) wants = false
nests (items.Label w ∷ more) os wants = nests more os wants
nests (items.Position p ∷ more) os wants = nests more os false
nests (items.Try ∷ more) os wants = nests more (InTry ∷ os) true
nests (items.Catch ∷ more) (InTry ∷ os) false = nests more (InCatch ∷ os) true
nests (items.End ∷ more) (InCatch ∷ os) false = nests more os false
nests (items.Catch ∷ more) _ _ = false
nests (items.End ∷ more) _ _ = false

abbrev pub body_fits : BodyParts → Bool
body_fits b =
    is_word b.name && (list_all is_word b.params && (list_all is_word b.locals && (nat_le b.iters 65535
    && (where_there type_fits b.stated && (nests b.items [] false && list_all item_fits b.items)))))

-- ---- classes

abbrev pub scalar_fits : Cell → Bool
scalar_fits cells.Null = true
scalar_fits (cells.Bool b) = true
scalar_fits (cells.Int i) = is_int64 i
scalar_fits (cells.Str s) = is_string s
scalar_fits _ = false

-- a scalar, or an empty container
abbrev pub initial_fits : Cell → Bool
initial_fits (cells.Vec []) = true
initial_fits (cells.Dict []) = true
initial_fits (cells.Keyset []) = true
initial_fits c = scalar_fits c

abbrev pub const_fits : Const → Bool
const_fits c = is_word c.name && scalar_fits c.value

abbrev pub property_fits : PropertyParts → Bool
property_fits p = is_word p.name && (initial_fits p.initial && where_there type_fits p.stated)

abbrev pub class_fits : ClassParts → Bool
class_fits c =
    is_word c.name && (where_there is_word c.parent && (list_all const_fits c.consts && (list_all property_fits c.props && list_all body_fits c.methods)))

abbrev pub parts_fit : List BodyParts → List ClassParts → Bool
parts_fit functions classes = list_all body_fits functions && list_all class_fits classes
