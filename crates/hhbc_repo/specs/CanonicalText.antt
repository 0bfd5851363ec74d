-- The canonical text of every repository: the tokens of its canonical parts, each with the white space before it.
use Rattle.std.specs.Prelude.{ℕ, zero, suc, Bool, true, false, List, [], ◌∷◌, ◌++◌, map, Option, Some, None, codes, pos}
use Rattle.std.specs.List.{flat_map}
use Rattle.hhas_lex.specs.Spaced.{Spaced, text_of}
use Rattle.hhas_lex.specs.Tokens.{Token, Directive, Word, Local, Integer, Str, Mark}
use Rattle.hack_values.specs.declared.cell.Cell.{Cell}
use Rattle.hack_values.specs.declared.cell.Cell.TheVariants as cells
use Rattle.hhbc_ops.specs.declared.op.Op.{Op}
use Rattle.hhbc_ops.specs.declared.op.Op.TheVariants as ops
use Rattle.hhbc_ops.specs.Ops.{op_name}
use Rattle.hhbc_ops.specs.Words.{set_op_name, inc_dec_name, query_mode_name, is_type_name}
use Rattle.hhbc_repo.specs.declared.parts.BodyParts.{BodyParts}
use Rattle.hhbc_repo.specs.declared.parts.ClassParts.{ClassParts}
use Rattle.hhbc_repo.specs.declared.parts.PropertyParts.{PropertyParts}
use Rattle.hhbc_repo.specs.declared.parts.TypeParts.{TypeParts}
use Rattle.hhbc_repo.specs.declared.parts.ItemParts.{ItemParts}
use Rattle.hhbc_repo.specs.declared.parts.ItemParts.TheVariants as items
use Rattle.hhbc_repo.specs.declared.parts.PositionParts.{PositionParts}
use Rattle.hhbc_repo.specs.declared.parts.AssertParts.{AssertParts}
use Rattle.hhbc_repo.specs.declared.parts.AssertParts.TheVariants as claims
use Rattle.hhbc_repo.specs.declared.parts.CodeParts.{CodeParts}
use Rattle.hhbc_repo.specs.declared.parts.CodeParts.TheVariants as forms
use Rattle.hhbc_repo.specs.declared.parts.ImmParts.{ImmParts}
use Rattle.hhbc_repo.specs.declared.parts.ImmParts.TheVariants as imms
use Rattle.hhbc_repo.specs.declared.parts.ArmParts.{ArmParts}
use Rattle.hhbc_repo.specs.declared.parts.BaseParts.{BaseParts}
use Rattle.hhbc_repo.specs.declared.parts.BaseParts.TheVariants as bases
use Rattle.hhbc_repo.specs.declared.parts.MemberKeyParts.{MemberKeyParts}
use Rattle.hhbc_repo.specs.declared.parts.MemberKeyParts.TheVariants as keys
use Rattle.hhbc_repo.specs.declared.parts.FinalParts.{FinalParts}
use Rattle.hhbc_repo.specs.declared.parts.FinalParts.TheVariants as finals
use Rattle.hhbc_repo.specs.declared.repo.Const.{Const}
use Rattle.hhbc_repo.specs.Canonical.{canonical}
use Rattle.hhbc_repo.specs.Linked.{Linked}
use Rattle.hhbc_repo.specs.LinkFaults.{Name, Whole}
use Rattle.hhbc_repo.specs.TypeSyntax.{Written, TypeAtom, WrittenType, atom_tokens}
use Rattle.hhbc_repo.specs.TypeSyntax as types
use Rattle.hhbc_repo.specs.WrittenTypes.{written_type}

-- ---- lines

-- two spaces for each open brace
abbrev pub indent : ℕ → List ℕ
indent zero = []
indent (suc depth) = 32 ∷ 32 ∷ indent depth

-- the first token of a line, which begins behind the line feed
abbrev pub line : ℕ → Token → Spaced
line depth t = record { space = 10 ∷ indent depth; token = t }

abbrev pub spaced : Token → Spaced
spaced t = record { space = 32 ∷ []; token = t }

abbrev pub tight : Token → Spaced
tight t = record { space = []; token = t }

-- ---- types: nothing stands within one

abbrev pub barred : List Token → List Token
barred ts = Mark 124 ∷ ts

abbrev pub joined : List (List Token) → List Token
joined [] = []
joined (ts ∷ more) = ts ++ flat_map barred more

abbrev pub written_tokens : Written → List Token
written_tokens types.Never = Word (codes "Never") ∷ []
written_tokens types.Cell = Word (codes "Cell") ∷ []
written_tokens (types.Of atoms) = joined (map atom_tokens atoms)

abbrev pub type_atom_tokens : TypeAtom → List Token
type_atom_tokens types.Uninit = Word (codes "Uninit") ∷ []
type_atom_tokens (types.Plain a) = atom_tokens a
type_atom_tokens (types.VecOf leaf) = Word (codes "Vec") ∷ Mark 60 ∷ (written_tokens leaf ++ Mark 62 ∷ [])
type_atom_tokens (types.DictOf key leaf) =
    Word (codes "Dict") ∷ Mark 60 ∷ (written_tokens key ++ (Mark 44 ∷ (written_tokens leaf ++ Mark 62 ∷ [])))
type_atom_tokens (types.KeysetOf key) = Word (codes "Keyset") ∷ Mark 60 ∷ (written_tokens key ++ Mark 62 ∷ [])

abbrev pub type_tokens : WrittenType → List Token
type_tokens types.NeverType = Word (codes "Never") ∷ []
type_tokens types.CellType = Word (codes "Cell") ∷ []
type_tokens types.UninitCell = Word (codes "Uninit") ∷ Mark 124 ∷ Word (codes "Cell") ∷ []
type_tokens (types.AtomsType atoms) = joined (map type_atom_tokens atoms)

-- a space before the first
abbrev pub behind_space : List Token → List Spaced
behind_space [] = []
behind_space (t ∷ ts) = spaced t ∷ map tight ts

abbrev pub type_pieces : TypeParts → List Spaced
type_pieces t = behind_space (type_tokens (written_type t.classes t.t))

-- ---- operands

abbrev pub label_piece : ArmParts → Spaced
label_piece a = spaced (Word a.target)

-- arms of a switch on ints
abbrev pub arms_pieces : List ArmParts → List Spaced
arms_pieces [] = []
arms_pieces (a ∷ more) = tight (Word a.target) ∷ map label_piece more

abbrev pub arm_token : Option (List ℕ) → Token
arm_token None = Word (codes "default")
arm_token (Some s) = Str s

abbrev pub arm_target : Name → List Spaced
arm_target target = tight (Mark 58) ∷ tight (Word target) ∷ []

abbrev pub more_arm : ArmParts → List Spaced
more_arm a = tight (Mark 44) ∷ spaced (arm_token a.text) ∷ arm_target a.target

-- arms of a switch on strings
abbrev pub text_arms_pieces : List ArmParts → List Spaced
text_arms_pieces [] = []
text_arms_pieces (a ∷ more) = tight (arm_token a.text) ∷ (arm_target a.target ++ flat_map more_arm more)

abbrev pub is_text_switch : Op → Bool
is_text_switch ops.SSwitch = true
is_text_switch _ = false

abbrev pub inner_arms : Bool → List ArmParts → List Spaced
inner_arms true arms = text_arms_pieces arms
inner_arms false arms = arms_pieces arms

abbrev pub switch_pieces : Bool → List ArmParts → List Spaced
switch_pieces by_text arms = spaced (Mark 60) ∷ (inner_arms by_text arms ++ tight (Mark 62) ∷ [])

-- a word, a colon, and what stands directly behind it
abbrev pub tagged : Name → Token → List Spaced
tagged word t = spaced (Word word) ∷ tight (Mark 58) ∷ tight t ∷ []

abbrev pub key_local : Option Name → List Spaced
key_local None = []
key_local (Some l) = tagged (codes "K") (Local l)

abbrev pub operand_pieces : Op → ImmParts → List Spaced
operand_pieces op (imms.Int i) = spaced (Integer i) ∷ []
operand_pieces op (imms.Count n) = spaced (Integer (pos n)) ∷ []
operand_pieces op (imms.Str s) = spaced (Str s) ∷ []
operand_pieces op (imms.Name w) = spaced (Word w) ∷ []
operand_pieces op (imms.Local l) = spaced (Local l) ∷ []
operand_pieces op (imms.Iter i) = spaced (Integer (pos i)) ∷ []
operand_pieces op (imms.Pos w) = spaced (Word w) ∷ []
operand_pieces op (imms.Class w) = spaced (Word w) ∷ []
operand_pieces op (imms.IncDec change) = spaced (Word (inc_dec_name change)) ∷ []
operand_pieces op (imms.SetOp set_op) = spaced (Word (set_op_name set_op)) ∷ []
operand_pieces op (imms.IsType kind) = spaced (Word (is_type_name kind)) ∷ []
operand_pieces op (imms.Constraint t) = type_pieces t
operand_pieces op (imms.Arms arms) = switch_pieces (is_text_switch op) arms
operand_pieces op (imms.IterLocals key value) = key_local key ++ tagged (codes "V") (Local value)

-- ---- codes

abbrev pub base_pieces : ℕ → BaseParts → List Spaced
base_pieces depth (bases.Local l) = line depth (Word (codes "BaseL")) ∷ spaced (Local l) ∷ []
base_pieces depth (bases.Stack i) = line depth (Word (codes "BaseC")) ∷ spaced (Integer (pos i)) ∷ []
base_pieces depth bases.This = line depth (Word (codes "BaseH")) ∷ []

abbrev pub key_pieces : MemberKeyParts → List Spaced
key_pieces (keys.ElemStack i) = tagged (codes "EC") (Integer (pos i))
key_pieces (keys.ElemLocal l) = tagged (codes "EL") (Local l)
key_pieces (keys.ElemText s) = tagged (codes "ET") (Str s)
key_pieces (keys.ElemInt i) = tagged (codes "EI") (Integer i)
key_pieces (keys.PropStack i) = tagged (codes "PC") (Integer (pos i))
key_pieces (keys.PropLocal l) = tagged (codes "PL") (Local l)
key_pieces (keys.PropName w) = tagged (codes "PT") (Word w)
key_pieces (keys.NullsafeName w) = tagged (codes "QT") (Word w)
key_pieces keys.Append = spaced (Word (codes "W")) ∷ []

abbrev pub dim_pieces : ℕ → MemberKeyParts → List Spaced
dim_pieces depth key = line depth (Word (codes "Dim")) ∷ key_pieces key

-- the word of a final and its number
abbrev pub final_head : ℕ → Name → ℕ → List Spaced
final_head depth word n = line depth (Word word) ∷ spaced (Integer (pos n)) ∷ []

abbrev pub final_pieces : ℕ → FinalParts → List Spaced
final_pieces depth (finals.Query n mode key) = final_head depth (codes "QueryM") n ++ (spaced (Word (query_mode_name mode)) ∷ key_pieces key)
final_pieces depth (finals.Set n key) = final_head depth (codes "SetM") n ++ key_pieces key
final_pieces depth (finals.SetOp n op key) = final_head depth (codes "SetOpM") n ++ (spaced (Word (set_op_name op)) ∷ key_pieces key)
final_pieces depth (finals.IncDec n op key) = final_head depth (codes "IncDecM") n ++ (spaced (Word (inc_dec_name op)) ∷ key_pieces key)
final_pieces depth (finals.Unset n key) = final_head depth (codes "UnsetM") n ++ key_pieces key

-- an instruction is a line; of a member sequence the base, each Dim and the final are
abbrev pub code_pieces : ℕ → CodeParts → List Spaced
code_pieces depth (forms.Plain i) = line depth (Word (op_name i.op)) ∷ flat_map (operand_pieces i.op) i.imms
code_pieces depth (forms.Member m) = base_pieces depth m.base ++ (flat_map (dim_pieces depth) m.dims ++ final_pieces depth m.last)

abbrev pub assert_pieces : ℕ → AssertParts → List Spaced
assert_pieces depth (claims.Local l t) = line depth (Word (codes "AssertRATL")) ∷ spaced (Local l) ∷ type_pieces t
assert_pieces depth (claims.Stack i t) = line depth (Word (codes "AssertRATStk")) ∷ spaced (Integer (pos i)) ∷ type_pieces t

abbrev pub position_pieces : ℕ → PositionParts → List Spaced
position_pieces depth p = flat_map (assert_pieces depth) p.asserts ++ code_pieces depth p.code

-- ---- items

-- within one brace less
abbrev pub outer : ℕ → ℕ
outer zero = zero
outer (suc depth) = depth

-- the items of a body within so many braces; it closes those that its try and catch bodies open
abbrev pub item_pieces : ℕ → List ItemParts → List Spaced
item_pieces depth [] = []
item_pieces depth (items.Label l ∷ more) = line depth (Word l) ∷ tight (Mark 58) ∷ item_pieces depth more
item_pieces depth (items.Position p ∷ more) = position_pieces depth p ++ item_pieces depth more
item_pieces depth (items.Try ∷ more) = line depth (Directive (codes "try")) ∷ spaced (Mark 123) ∷ item_pieces (suc depth) more
item_pieces depth (items.Catch ∷ more) =
    line (outer depth) (Mark 125) ∷ spaced (Directive (codes "catch")) ∷ spaced (Mark 123) ∷ item_pieces depth more
item_pieces depth (items.End ∷ more) = line (outer depth) (Mark 125) ∷ item_pieces (outer depth) more

-- ---- bodies

abbrev pub more_local : Name → List Spaced
more_local l = tight (Mark 44) ∷ spaced (Local l) ∷ []

abbrev pub params_pieces : List Name → List Spaced
params_pieces [] = tight (Mark 40) ∷ tight (Mark 41) ∷ []
params_pieces (l ∷ more) = tight (Mark 40) ∷ tight (Local l) ∷ (flat_map more_local more ++ tight (Mark 41) ∷ [])

-- a directive and a type, where one is stated
abbrev pub stated_pieces : Name → Option TypeParts → List Spaced
stated_pieces word None = []
stated_pieces word (Some t) = spaced (Directive word) ∷ type_pieces t

abbrev pub locals_pieces : ℕ → List Name → List Spaced
locals_pieces depth [] = []
locals_pieces depth (l ∷ more) = line depth (Directive (codes "declvars")) ∷ spaced (Local l) ∷ (flat_map more_local more ++ tight (Mark 59) ∷ [])

abbrev pub iters_pieces : ℕ → ℕ → List Spaced
iters_pieces depth zero = []
iters_pieces depth (suc n) = line depth (Directive (codes "numiters")) ∷ spaced (Integer (pos (suc n))) ∷ tight (Mark 59) ∷ []

abbrev pub head_pieces : ℕ → Name → BodyParts → List Spaced
head_pieces depth word b =
    line depth (Directive word) ∷ spaced (Word b.name) ∷ (params_pieces b.params ++ (stated_pieces (codes "returns") b.stated ++ spaced (Mark 123) ∷ []))

-- what stands between the braces
abbrev pub inner_pieces : ℕ → BodyParts → List Spaced
inner_pieces depth b = locals_pieces depth b.locals ++ (iters_pieces depth b.iters ++ item_pieces depth b.items)

-- the word is that of functions or of methods
abbrev pub body_pieces : ℕ → Name → BodyParts → List Spaced
body_pieces depth word b = head_pieces depth word b ++ (inner_pieces (suc depth) b ++ line depth (Mark 125) ∷ [])

-- ---- classes

-- a scalar, or the word of an empty container; no object stands in a text
abbrev pub cell_token : Cell → Token
cell_token cells.Null = Word (codes "Null")
cell_token (cells.Bool true) = Word (codes "True")
cell_token (cells.Bool false) = Word (codes "False")
cell_token (cells.Int i) = Integer i
cell_token (cells.Str s) = Str s
cell_token (cells.Vec elements) = Word (codes "Vec")
cell_token (cells.Dict entries) = Word (codes "Dict")
cell_token (cells.Keyset elements) = Word (codes "Keyset")
cell_token (cells.Obj n) = Word []

-- a directive, a name, the mark = and a value
abbrev pub valued : Name → Name → Cell → List Spaced
valued word name value = line 1 (Directive word) ∷ spaced (Word name) ∷ spaced (Mark 61) ∷ spaced (cell_token value) ∷ []

abbrev pub const_pieces : Const → List Spaced
const_pieces c = valued (codes "const") c.name c.value ++ tight (Mark 59) ∷ []

abbrev pub property_pieces : PropertyParts → List Spaced
property_pieces p = valued (codes "property") p.name p.initial ++ (stated_pieces (codes "holds") p.stated ++ tight (Mark 59) ∷ [])

abbrev pub method_pieces : BodyParts → List Spaced
method_pieces b = body_pieces 1 (codes "method") b

abbrev pub parent_pieces : Option Name → List Spaced
parent_pieces None = []
parent_pieces (Some name) = spaced (Word (codes "extends")) ∷ spaced (Word name) ∷ []

abbrev pub class_head : ClassParts → List Spaced
class_head c = line 0 (Directive (codes "class")) ∷ spaced (Word c.name) ∷ (parent_pieces c.parent ++ spaced (Mark 123) ∷ [])

-- constants, then properties, then methods
abbrev pub member_pieces : ClassParts → List Spaced
member_pieces c = flat_map const_pieces c.consts ++ (flat_map property_pieces c.props ++ flat_map method_pieces c.methods)

abbrev pub class_pieces : ClassParts → List Spaced
class_pieces c = class_head c ++ (member_pieces c ++ line 0 (Mark 125) ∷ [])

-- ---- texts

abbrev pub function_pieces : BodyParts → List Spaced
function_pieces b = body_pieces 0 (codes "function") b

-- what stands behind the word of the profile: the functions, then the classes
abbrev pub whole_pieces : Whole → List Spaced
whole_pieces w = spaced (Integer (pos 1)) ∷ tight (Mark 59) ∷ (flat_map function_pieces w.functions ++ flat_map class_pieces w.classes)

-- the text ends with a line feed
abbrev pub parts_text : Whole → List ℕ
parts_text w = text_of (tight (Directive (codes "profile")) ∷ whole_pieces w) ++ 10 ∷ []

abbrev pub canonical_text : Linked → List ℕ
canonical_text r = parts_text (canonical r)
