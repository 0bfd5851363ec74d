-- The canonical parts of a repository: names in place of its numbers, and items in place of its positions and regions.
use Rattle.std.specs.Prelude.{ℕ, zero, suc, ◌+◌, ◌&&◌, Bool, List, [], ◌∷◌, ◌++◌, map, take, drop, length, replicate, Option, Some, None, option_map, slice_get, nat_eq, nat_le, ◌==◌, if◌then◌else◌}
use Rattle.std.specs.List.{flat_map, list_any}
use Rattle.std.specs.Fmt.{decimal}
use Rattle.type_lattice.specs.TypeText.{named, class_name}
use Rattle.hhbc_repo.specs.declared.parts.BodyParts.{BodyParts}
use Rattle.hhbc_repo.specs.declared.parts.ClassParts.{ClassParts}
use Rattle.hhbc_repo.specs.declared.parts.PropertyParts.{PropertyParts}
use Rattle.hhbc_repo.specs.declared.parts.ItemParts.{ItemParts}
use Rattle.hhbc_repo.specs.declared.parts.ItemParts.TheVariants as items
use Rattle.hhbc_repo.specs.declared.parts.PositionParts.{PositionParts}
use Rattle.hhbc_repo.specs.declared.parts.AssertParts.{AssertParts}
use Rattle.hhbc_repo.specs.declared.parts.AssertParts.TheVariants as claims
use Rattle.hhbc_repo.specs.declared.parts.CodeParts.{CodeParts}
use Rattle.hhbc_repo.specs.declared.parts.CodeParts.TheVariants as forms
use Rattle.hhbc_repo.specs.declared.parts.ImmParts.{ImmParts}
use Rattle.hhbc_repo.specs.declared.parts.ImmParts.TheVariants as operands
use Rattle.hhbc_repo.specs.declared.parts.ArmParts.{ArmParts}
use Rattle.hhbc_repo.specs.declared.parts.BaseParts.{BaseParts}
use Rattle.hhbc_repo.specs.declared.parts.BaseParts.TheVariants as base_parts
use Rattle.hhbc_repo.specs.declared.parts.MemberKeyParts.{MemberKeyParts}
use Rattle.hhbc_repo.specs.declared.parts.MemberKeyParts.TheVariants as key_parts
use Rattle.hhbc_repo.specs.declared.parts.FinalParts.{FinalParts}
use Rattle.hhbc_repo.specs.declared.parts.FinalParts.TheVariants as final_parts
use Rattle.hhbc_repo.specs.declared.body.Body.{Body}
use Rattle.hhbc_repo.specs.declared.body.Position.{Position}
use Rattle.hhbc_repo.specs.declared.body.Region.{Region}
use Rattle.hhbc_repo.specs.declared.body.Assert.{Assert}
use Rattle.hhbc_repo.specs.declared.body.Assert.TheVariants as asserts
use Rattle.hhbc_repo.specs.declared.code.Code.{Code}
use Rattle.hhbc_repo.specs.declared.code.Code.TheVariants as codes
use Rattle.hhbc_repo.specs.declared.code.Imm.{Imm}
use Rattle.hhbc_repo.specs.declared.code.Imm.TheVariants as imms
use Rattle.hhbc_repo.specs.declared.code.Arm.{Arm}
use Rattle.hhbc_repo.specs.declared.code.Base.{Base}
use Rattle.hhbc_repo.specs.declared.code.Base.TheVariants as bases
use Rattle.hhbc_repo.specs.declared.code.MemberKey.{MemberKey}
use Rattle.hhbc_repo.specs.declared.code.MemberKey.TheVariants as keys
use Rattle.hhbc_repo.specs.declared.code.Final.{Final}
use Rattle.hhbc_repo.specs.declared.code.Final.TheVariants as finals
use Rattle.hhbc_repo.specs.declared.repo.Class.{Class}
use Rattle.hhbc_repo.specs.declared.repo.Property.{Property}
use Rattle.hhbc_repo.specs.Bodies.{class_names}
use Rattle.hhbc_repo.specs.Codes.{labels}
use Rattle.hhbc_repo.specs.Linked.{Linked}
use Rattle.hhbc_repo.specs.LinkFaults.{Name, Whole}
use Rattle.hhbc_repo.specs.WrittenTypes.{canonical_type}

-- ---- labels

-- the positions that a code names
abbrev pub position_targets : Position → List ℕ
position_targets p = labels p.code

abbrev pub targets : List Position → List ℕ
targets all = flat_map position_targets all

-- some code names the position
abbrev pub is_named : List Position → ℕ → Bool
is_named all p = list_any (nat_eq p) (targets all)

-- how many positions before this one are named
abbrev pub named_before : List Position → ℕ → ℕ
named_before all zero = 0
named_before all (suc p) = named_before all p + (if is_named all p then 1 else 0)

-- the number of a position's label, which is one that some code names; the number of positions may have one too, and
-- what is past that has none
abbrev pub label_at : List Position → ℕ → Option ℕ
label_at all p = if nat_le p (length all) && is_named all p then Some (named_before all p) else None

-- L and the number
abbrev pub label_called : ℕ → Name
label_called n = 76 ∷ decimal n

abbrev pub label_name : List Position → ℕ → Name
label_name all p = named (option_map label_called (label_at all p))

abbrev pub label_item : Option ℕ → List ItemParts
label_item None = []
label_item (Some n) = items.Label (label_called n) ∷ []

-- ---- codes

-- a local by its number
abbrev pub local_name : Body → ℕ → Name
local_name b l = named (slice_get b.locals l)

abbrev pub canonical_arm : Body → Arm → ArmParts
canonical_arm b a = record { text = a.text; target = label_name b.positions a.target }

-- an operand, given the names of all classes
abbrev pub canonical_operand : List Name → Body → Imm → ImmParts
canonical_operand names b (imms.Int i) = operands.Int i
canonical_operand names b (imms.Count n) = operands.Count n
canonical_operand names b (imms.Str s) = operands.Str s
canonical_operand names b (imms.Name name) = operands.Name name
canonical_operand names b (imms.Local l) = operands.Local (local_name b l)
canonical_operand names b (imms.Iter i) = operands.Iter i
canonical_operand names b (imms.Pos p) = operands.Pos (label_name b.positions p)
canonical_operand names b (imms.Class c) = operands.Class (class_name names c)
canonical_operand names b (imms.IncDec op) = operands.IncDec op
canonical_operand names b (imms.SetOp op) = operands.SetOp op
canonical_operand names b (imms.IsType op) = operands.IsType op
canonical_operand names b (imms.Constraint t) = operands.Constraint (canonical_type names t)
canonical_operand names b (imms.Arms arms) = operands.Arms (map (canonical_arm b) arms)
canonical_operand names b (imms.IterLocals key value) = operands.IterLocals (option_map (local_name b) key) (local_name b value)

abbrev pub canonical_base : Body → Base → BaseParts
canonical_base b (bases.Local l) = base_parts.Local (local_name b l)
canonical_base b (bases.Stack i) = base_parts.Stack i
canonical_base b bases.This = base_parts.This

abbrev pub canonical_key : Body → MemberKey → MemberKeyParts
canonical_key b (keys.ElemStack i) = key_parts.ElemStack i
canonical_key b (keys.ElemLocal l) = key_parts.ElemLocal (local_name b l)
canonical_key b (keys.ElemText s) = key_parts.ElemText s
canonical_key b (keys.ElemInt i) = key_parts.ElemInt i
canonical_key b (keys.PropStack i) = key_parts.PropStack i
canonical_key b (keys.PropLocal l) = key_parts.PropLocal (local_name b l)
canonical_key b (keys.PropName name) = key_parts.PropName name
canonical_key b (keys.NullsafeName name) = key_parts.NullsafeName name
canonical_key b keys.Append = key_parts.Append

abbrev pub canonical_final : Body → Final → FinalParts
canonical_final b (finals.Query n mode key) = final_parts.Query n mode (canonical_key b key)
canonical_final b (finals.Set n key) = final_parts.Set n (canonical_key b key)
canonical_final b (finals.SetOp n op key) = final_parts.SetOp n op (canonical_key b key)
canonical_final b (finals.IncDec n op key) = final_parts.IncDec n op (canonical_key b key)
canonical_final b (finals.Unset n key) = final_parts.Unset n (canonical_key b key)

abbrev pub canonical_code : List Name → Body → Code → CodeParts
canonical_code names b (codes.Plain i) = forms.Plain (record { op = i.op; imms = map (canonical_operand names b) i.imms })
canonical_code names b (codes.Member m) =
    forms.Member (record { base = canonical_base b m.base; dims = map (canonical_key b) m.dims; last = canonical_final b m.last })

abbrev pub canonical_assert : List Name → Body → Assert → AssertParts
canonical_assert names b (asserts.Local l t) = claims.Local (local_name b l) (canonical_type names t)
canonical_assert names b (asserts.Stack i t) = claims.Stack i (canonical_type names t)

abbrev pub canonical_position : List Name → Body → Position → PositionParts
canonical_position names b p = record { asserts = map (canonical_assert names b) p.asserts; code = canonical_code names b p.code }

-- ---- items

-- how many of these numbers are that one
abbrev pub how_many : ℕ → List ℕ → ℕ
how_many p [] = 0
how_many p (q ∷ qs) = (if p == q then 1 else 0) + how_many p qs

abbrev pub firsts : List Region → List ℕ
firsts rs = map (λ (r : Region). r.first) rs

abbrev pub mids : List Region → List ℕ
mids rs = map (λ (r : Region). r.mid) rs

abbrev pub lasts : List Region → List ℕ
lasts rs = map (λ (r : Region). r.last) rs

-- the catch bodies that end before a position, the one that begins there, and the try bodies that do
abbrev pub turns : List Region → ℕ → List ItemParts
turns rs p = replicate (how_many p (lasts rs)) items.End ++ (replicate (how_many p (mids rs)) items.Catch ++ replicate (how_many p (firsts rs)) items.Try)

-- what stands before a position: ends and beginnings of bodies, and its label
abbrev pub before : Body → ℕ → List ItemParts
before b p = turns b.regions p ++ label_item (label_at b.positions p)

-- the items from a position on, of which the positions are left; a label may stand behind the last
abbrev pub items_from : List Name → Body → ℕ → List Position → List ItemParts
items_from names b p [] = before b p
items_from names b p (q ∷ qs) = before b p ++ (items.Position (canonical_position names b q) ∷ items_from names b (suc p) qs)

-- ---- bodies, classes and all

-- the parameters are the first locals, and the others are declared
abbrev pub canonical_body : List Name → Body → BodyParts
canonical_body names b = record {
  name = b.name;
  params = take b.params b.locals;
  locals = drop b.params b.locals;
  iters = b.iters;
  stated = option_map (canonical_type names) b.stated;
  items = items_from names b 0 b.positions;
}

abbrev pub canonical_property : List Name → Property → PropertyParts
canonical_property names p = record { name = p.name; initial = p.initial; stated = option_map (canonical_type names) p.stated }

abbrev pub canonical_class : List Name → Class → ClassParts
canonical_class names c = record {
  name = c.name;
  parent = option_map (class_name names) c.parent;
  consts = c.consts;
  props = map (canonical_property names) c.props;
  methods = map (canonical_body names) c.methods;
}

abbrev pub canonical : Linked → Whole
canonical r = record { functions = map (canonical_body (class_names r)) r.functions; classes = map (canonical_class (class_names r)) r.classes }
