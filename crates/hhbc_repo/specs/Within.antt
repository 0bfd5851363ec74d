-- What linking sees to in each body, as a test: words, ints, strings and indices keep to their ranges, and each number of a local,
-- an iterator, a position or a class is one that the body or the repository has.
use Rattle.std.specs.Prelude.{ℕ, Bool, true, false, not, ◌&&◌, ◌||◌, nat_le, nat_lt, List, [], ◌∷◌, length}
use Rattle.std.specs.List.{list_all, list_any}
use Rattle.hhas_lex.specs.Shape.{is_int64}
use Rattle.hhas_lex.specs.Spelling.{is_string, is_word}
use Rattle.hhbc_ops.specs.declared.words.ImmKind.{ImmKind}
use Rattle.hhbc_ops.specs.declared.words.ImmKind.TheVariants as kinds
use Rattle.hhbc_ops.specs.Ops.{kinds_of}
use Rattle.type_lattice.specs.declared.types.HType.{HType}
use Rattle.type_lattice.specs.InRange.{where_there, is_proper}
use Rattle.type_lattice.specs.Keep.{is_constraint}
use Rattle.hhbc_repo.specs.declared.body.Body.{Body}
use Rattle.hhbc_repo.specs.declared.body.Position.{Position}
use Rattle.hhbc_repo.specs.declared.body.Assert.{Assert}
use Rattle.hhbc_repo.specs.declared.body.Assert.TheVariants as asserts
use Rattle.hhbc_repo.specs.declared.code.Code.{Code}
use Rattle.hhbc_repo.specs.declared.code.Code.TheVariants as codes
use Rattle.hhbc_repo.specs.declared.code.Imm.{Imm}
use Rattle.hhbc_repo.specs.declared.code.Imm.TheVariants as imms
use Rattle.hhbc_repo.specs.declared.code.Arm.{Arm}
use Rattle.hhbc_repo.specs.declared.code.MemberSeq.{MemberSeq}
use Rattle.hhbc_repo.specs.declared.code.Base.{Base}
use Rattle.hhbc_repo.specs.declared.code.Base.TheVariants as bases
use Rattle.hhbc_repo.specs.declared.code.MemberKey.{MemberKey}
use Rattle.hhbc_repo.specs.declared.code.MemberKey.TheVariants as keys
use Rattle.hhbc_repo.specs.declared.code.Final.{Final}
use Rattle.hhbc_repo.specs.declared.code.Final.TheVariants as finals
use Rattle.hhbc_repo.specs.Names.{distinct}
use Rattle.hhbc_repo.specs.Ranges.{few_iterators}
use Rattle.hhbc_repo.specs.Fits.{has_no_text, has_text, is_index}

-- how many locals, iterators and positions a body has, and classes its repository
pub record Bounds : Type 0 where
  pub locals : ℕ
  pub iters : ℕ
  pub positions : ℕ
  pub classes : ℕ

abbrev pub bounds_of : ℕ → Body → Bounds
bounds_of classes b = record { locals = length b.locals; iters = b.iters; positions = length b.positions; classes = classes }

-- ---- types

abbrev pub constraint_within : ℕ → HType → Bool
constraint_within classes t = is_proper classes t && is_constraint t

-- ---- operands

-- a position, or the place behind the last
abbrev pub target_within : Bounds → ℕ → Bool
target_within b p = nat_le p b.positions

abbrev pub arm_within : Bounds → Arm → Bool
arm_within b a = target_within b a.target && has_no_text a.text

abbrev pub text_arm_within : Bounds → Arm → Bool
text_arm_within b a = target_within b a.target && has_text a.text

abbrev pub arms_within : Bounds → List Arm → Bool
arms_within b [] = false
arms_within b (a ∷ more) = list_all (arm_within b) (a ∷ more)

-- the last of them is the default
abbrev pub text_arms_within : Bounds → List Arm → Bool
text_arms_within b [] = false
text_arms_within b (a ∷ []) = arm_within b a
text_arms_within b (a ∷ c ∷ more) = text_arm_within b a && text_arms_within b (c ∷ more)

abbrev pub local_within : Bounds → ℕ → Bool
local_within b l = nat_lt l b.locals

abbrev pub operand_within : Bounds → ImmKind → Imm → Bool
operand_within b kinds.Int (imms.Int i) = is_int64 i
operand_within b kinds.Count (imms.Count n) = is_index n
operand_within b kinds.Str (imms.Str s) = is_string s
operand_within b kinds.Name (imms.Name w) = is_word w
operand_within b kinds.Local (imms.Local l) = local_within b l
operand_within b kinds.Iter (imms.Iter i) = nat_lt i b.iters
operand_within b kinds.Label (imms.Pos p) = target_within b p
operand_within b kinds.Class (imms.Class c) = nat_lt c b.classes
operand_within b kinds.IncDec (imms.IncDec op) = true
operand_within b kinds.SetOp (imms.SetOp op) = true
operand_within b kinds.IsType (imms.IsType op) = true
operand_within b kinds.Constraint (imms.Constraint t) = constraint_within b.classes t
operand_within b kinds.Switch (imms.Arms arms) = arms_within b arms
operand_within b kinds.SSwitch (imms.Arms arms) = text_arms_within b arms
operand_within b kinds.IterLocals (imms.IterLocals k v) = where_there (local_within b) k && local_within b v
operand_within b _ _ = false

abbrev pub operands_within : Bounds → List ImmKind → List Imm → Bool
operands_within b [] [] = true
operands_within b [] (m ∷ ms) = false
operands_within b (k ∷ ks) [] = false
operands_within b (k ∷ ks) (m ∷ ms) = operand_within b k m && operands_within b ks ms

-- ---- member sequences

abbrev pub base_within : Bounds → Base → Bool
base_within b (bases.Local l) = local_within b l
base_within b (bases.Stack n) = is_index n
base_within b bases.This = true

abbrev pub key_within : Bounds → MemberKey → Bool
key_within b (keys.ElemStack n) = is_index n
key_within b (keys.ElemLocal l) = local_within b l
key_within b (keys.ElemText s) = is_string s
key_within b (keys.ElemInt i) = is_int64 i
key_within b (keys.PropStack n) = is_index n
key_within b (keys.PropLocal l) = local_within b l
key_within b (keys.PropName w) = is_word w
key_within b (keys.NullsafeName w) = is_word w
key_within b keys.Append = true

abbrev pub appends : MemberKey → Bool
appends keys.Append = true
appends _ = false

abbrev pub is_nullsafe : MemberKey → Bool
is_nullsafe (keys.NullsafeName w) = true
is_nullsafe _ = false

abbrev pub is_query : Final → Bool
is_query (finals.Query n mode k) = true
is_query _ = false

-- W is a key of SetM alone, and QT one of sequences that end with QueryM alone
abbrev pub query_key_within : Bounds → MemberKey → Bool
query_key_within b k = key_within b k && not (appends k)

abbrev pub set_key_within : Bounds → MemberKey → Bool
set_key_within b k = key_within b k && not (is_nullsafe k)

abbrev pub change_key_within : Bounds → MemberKey → Bool
change_key_within b k = key_within b k && (not (appends k) && not (is_nullsafe k))

abbrev pub final_within : Bounds → Final → Bool
final_within b (finals.Query n mode k) = is_index n && query_key_within b k
final_within b (finals.Set n k) = is_index n && set_key_within b k
final_within b (finals.SetOp n op k) = is_index n && change_key_within b k
final_within b (finals.IncDec n op k) = is_index n && change_key_within b k
final_within b (finals.Unset n k) = is_index n && change_key_within b k

abbrev pub member_within : Bounds → MemberSeq → Bool
member_within b m =
    base_within b m.base && (list_all (query_key_within b) m.dims && (final_within b m.last && (not (list_any is_nullsafe m.dims) || is_query m.last)))

abbrev pub code_within : Bounds → Code → Bool
code_within b (codes.Plain i) = operands_within b (kinds_of i.op) i.imms
code_within b (codes.Member m) = member_within b m

-- ---- bodies

abbrev pub assert_within : Bounds → Assert → Bool
assert_within b (asserts.Local l t) = local_within b l && is_proper b.classes t
assert_within b (asserts.Stack n t) = is_index n && is_proper b.classes t

abbrev pub position_within : Bounds → Position → Bool
position_within b p = list_all (assert_within b) p.asserts && code_within b p.code

-- the numbers of a body's locals, iterators and positions have their limits
abbrev pub in_limits : Body → Bool
in_limits b = nat_le b.params (length b.locals) && (nat_le (length b.locals) 255 && (few_iterators b && nat_le (length b.positions) 65535))

-- of a repository with so many classes
abbrev pub body_within : ℕ → Body → Bool
body_within classes b =
    is_word b.name && (list_all is_word b.locals && (distinct b.locals && (in_limits b
    && (where_there (is_proper classes) b.stated && list_all (position_within (bounds_of classes b)) b.positions))))
