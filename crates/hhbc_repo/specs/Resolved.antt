-- What parts link to: locals, labels and classes by number. A name that isn't there counts as 0; where no check fails there is none.
use Rattle.std.specs.Prelude.{◌≡◌, ℕ, zero, suc, List, [], ◌∷◌, map, flat_map, length, Option, Some, None, option_map, slice_get}
use Rattle.type_lattice.specs.declared.types.HType.{HType}
use Rattle.type_lattice.specs.declared.types.Leaf.{Leaf}
use Rattle.type_lattice.specs.declared.types.ObjPart.{ObjPart}
use Rattle.type_lattice.specs.declared.types.ObjPart.TheVariants as objs
use Rattle.hhbc_repo.specs.declared.parts.BodyParts.{BodyParts}
use Rattle.hhbc_repo.specs.declared.parts.ClassParts.{ClassParts}
use Rattle.hhbc_repo.specs.declared.parts.PropertyParts.{PropertyParts}
use Rattle.hhbc_repo.specs.declared.parts.TypeParts.{TypeParts}
use Rattle.hhbc_repo.specs.declared.parts.ItemParts.{ItemParts}
use Rattle.hhbc_repo.specs.declared.parts.ItemParts.TheVariants as items
use Rattle.hhbc_repo.specs.declared.parts.PositionParts.{PositionParts}
use Rattle.hhbc_repo.specs.declared.parts.AssertParts.{AssertParts}
use Rattle.hhbc_repo.specs.declared.parts.AssertParts.TheVariants as claims
use Rattle.hhbc_repo.specs.declared.parts.CodeParts.{CodeParts}
use Rattle.hhbc_repo.specs.declared.parts.CodeParts.TheVariants as forms
use Rattle.hhbc_repo.specs.declared.parts.ImmParts.{ImmParts}
use Rattle.hhbc_repo.specs.declared.parts.ImmParts.TheVariants as named
use Rattle.hhbc_repo.specs.declared.parts.ArmParts.{ArmParts}
use Rattle.hhbc_repo.specs.declared.parts.BaseParts.{BaseParts}
use Rattle.hhbc_repo.specs.declared.parts.BaseParts.TheVariants as base_parts
use Rattle.hhbc_repo.specs.declared.parts.MemberKeyParts.{MemberKeyParts}
use Rattle.hhbc_repo.specs.declared.parts.MemberKeyParts.TheVariants as key_parts
use Rattle.hhbc_repo.specs.declared.parts.FinalParts.{FinalParts}
use Rattle.hhbc_repo.specs.declared.parts.FinalParts.TheVariants as final_parts
use Rattle.hhbc_repo.specs.declared.body.Body.{Body}
use Rattle.hhbc_repo.specs.declared.body.Position.{Position}
use Rattle.hhbc_repo.specs.declared.body.Region.{Region}
use Rattle.hhbc_repo.specs.declared.body.Assert.{Assert}
use Rattle.hhbc_repo.specs.declared.body.Assert.TheVariants as asserts
use Rattle.hhbc_repo.specs.declared.code.Code.{Code}
use Rattle.hhbc_repo.specs.declared.code.Code.TheVariants as codes
use Rattle.hhbc_repo.specs.declared.code.Imm.{Imm}
use Rattle.hhbc_repo.specs.declared.code.Imm.TheVariants as imms
use Rattle.hhbc_repo.specs.declared.code.Arm.{Arm}
use Rattle.hhbc_repo.specs.declared.code.Base.{Base}
use Rattle.hhbc_repo.specs.declared.code.Base.TheVariants as bases
use Rattle.hhbc_repo.specs.declared.code.MemberKey.{MemberKey}
use Rattle.hhbc_repo.specs.declared.code.MemberKey.TheVariants as keys
use Rattle.hhbc_repo.specs.declared.code.Final.{Final}
use Rattle.hhbc_repo.specs.declared.code.Final.TheVariants as finals
use Rattle.hhbc_repo.specs.declared.repo.Class.{Class}
use Rattle.hhbc_repo.specs.declared.repo.Property.{Property}
use Rattle.hhbc_repo.specs.Linked.{Linked}
use Rattle.hhbc_repo.specs.LinkFaults.{Name, Whole, place_in, class_of, parent_in, locals_of, faults}

abbrev pub or_zero : Option ℕ → ℕ
or_zero None = 0
or_zero (Some n) = n

abbrev pub named_class : Whole → Option Name → ℕ
named_class w None = 0
named_class w (Some name) = or_zero (class_of w name)

-- the number of the class that is at a place of a type's list of names
abbrev pub class_at : Whole → List Name → ℕ → ℕ
class_at w classes i = named_class w (slice_get classes i)

abbrev pub obj_with : (ℕ → ℕ) → ObjPart → ObjPart
obj_with f objs.No = objs.No
obj_with f (objs.Exact c) = objs.Exact (f c)
obj_with f (objs.Sub c) = objs.Sub (f c)
obj_with f objs.Any = objs.Any

abbrev pub leaf_with : (ℕ → ℕ) → Leaf → Leaf
leaf_with f l = record l { obj = obj_with f l.obj }

abbrev pub entry_with : (ℕ → ℕ) → Leaf × Leaf → Leaf × Leaf
entry_with f e = (leaf_with f e.0, leaf_with f e.1)

-- a type with its classes numbered anew
abbrev pub type_with : (ℕ → ℕ) → HType → HType
type_with f t = record t {
  obj = obj_with f t.obj;
  vec = option_map (leaf_with f) t.vec;
  dict = option_map (entry_with f) t.dict;
  keyset = option_map (leaf_with f) t.keyset;
}

abbrev pub resolved_type : Whole → TypeParts → HType
resolved_type w t = type_with (class_at w t.classes) t.t

abbrev pub label_here : ℕ → Option ℕ → ℕ → ℕ
label_here n None later = later
label_here n (Some i) later = n

-- how many codes stand before the first label of a name
abbrev pub label_from : ℕ → List ItemParts → Name → ℕ
label_from n [] name = n
label_from n (items.Label other ∷ more) name = label_here n (place_in (other ∷ []) name) (label_from n more name)
label_from n (items.Position p ∷ more) name = label_from (suc n) more name
label_from n (items.Try ∷ more) name = label_from n more name
label_from n (items.Catch ∷ more) name = label_from n more name
label_from n (items.End ∷ more) name = label_from n more name

-- a body within its repository
abbrev pub local_number : BodyParts → Name → ℕ
local_number b name = or_zero (place_in (locals_of b) name)

abbrev pub label_number : BodyParts → Name → ℕ
label_number b name = label_from 0 b.items name

abbrev pub class_number : Whole → Name → ℕ
class_number w name = or_zero (class_of w name)

abbrev pub resolved_assert : Whole → BodyParts → AssertParts → Assert
resolved_assert w b (claims.Local name t) = asserts.Local (local_number b name) (resolved_type w t)
resolved_assert w b (claims.Stack i t) = asserts.Stack i (resolved_type w t)

abbrev pub resolved_arm : BodyParts → ArmParts → Arm
resolved_arm b a = record { text = a.text; target = label_number b a.target }

abbrev pub resolved_operand : Whole → BodyParts → ImmParts → Imm
resolved_operand w b (named.Int i) = imms.Int i
resolved_operand w b (named.Count n) = imms.Count n
resolved_operand w b (named.Str s) = imms.Str s
resolved_operand w b (named.Name name) = imms.Name name
resolved_operand w b (named.Local name) = imms.Local (local_number b name)
resolved_operand w b (named.Iter i) = imms.Iter i
resolved_operand w b (named.Pos name) = imms.Pos (label_number b name)
resolved_operand w b (named.Class name) = imms.Class (class_number w name)
resolved_operand w b (named.IncDec op) = imms.IncDec op
resolved_operand w b (named.SetOp op) = imms.SetOp op
resolved_operand w b (named.IsType op) = imms.IsType op
resolved_operand w b (named.Constraint t) = imms.Constraint (resolved_type w t)
resolved_operand w b (named.Arms arms) = imms.Arms (map (resolved_arm b) arms)
resolved_operand w b (named.IterLocals key value) = imms.IterLocals (option_map (local_number b) key) (local_number b value)

abbrev pub resolved_base : BodyParts → BaseParts → Base
resolved_base b (base_parts.Local name) = bases.Local (local_number b name)
resolved_base b (base_parts.Stack i) = bases.Stack i
resolved_base b base_parts.This = bases.This

abbrev pub resolved_key : BodyParts → MemberKeyParts → MemberKey
resolved_key b (key_parts.ElemStack i) = keys.ElemStack i
resolved_key b (key_parts.ElemLocal name) = keys.ElemLocal (local_number b name)
resolved_key b (key_parts.ElemText s) = keys.ElemText s
resolved_key b (key_parts.ElemInt i) = keys.ElemInt i
resolved_key b (key_parts.PropStack i) = keys.PropStack i
resolved_key b (key_parts.PropLocal name) = keys.PropLocal (local_number b name)
resolved_key b (key_parts.PropName name) = keys.PropName name
resolved_key b (key_parts.NullsafeName name) = keys.NullsafeName name
resolved_key b key_parts.Append = keys.Append

abbrev pub resolved_final : BodyParts → FinalParts → Final
resolved_final b (final_parts.Query n mode key) = finals.Query n mode (resolved_key b key)
resolved_final b (final_parts.Set n key) = finals.Set n (resolved_key b key)
resolved_final b (final_parts.SetOp n op key) = finals.SetOp n op (resolved_key b key)
resolved_final b (final_parts.IncDec n op key) = finals.IncDec n op (resolved_key b key)
resolved_final b (final_parts.Unset n key) = finals.Unset n (resolved_key b key)

abbrev pub resolved_code : Whole → BodyParts → CodeParts → Code
resolved_code w b (forms.Plain i) = codes.Plain (record { op = i.op; imms = map (resolved_operand w b) i.imms })
resolved_code w b (forms.Member m) = codes.Member (record { base = resolved_base b m.base; dims = map (resolved_key b) m.dims; last = resolved_final b m.last })

abbrev pub resolved_position : Whole → BodyParts → PositionParts → Position
resolved_position w b p = record { asserts = map (resolved_assert w b) p.asserts; code = resolved_code w b p.code }

abbrev pub resolved_item : Whole → BodyParts → ItemParts → List Position
resolved_item w b (items.Position p) = resolved_position w b p ∷ []
resolved_item w b _ = []

-- the position where the catch body of an open try body begins, and the one where it ends, over bodies opened since
abbrev pub catch_from : ℕ → ℕ → List ItemParts → ℕ
catch_from n opened [] = n
catch_from n opened (items.Label name ∷ more) = catch_from n opened more
catch_from n opened (items.Position p ∷ more) = catch_from (suc n) opened more
catch_from n opened (items.Try ∷ more) = catch_from n (suc opened) more
catch_from n zero (items.Catch ∷ more) = n
catch_from n (suc opened) (items.Catch ∷ more) = catch_from n (suc opened) more
catch_from n zero (items.End ∷ more) = n
catch_from n (suc opened) (items.End ∷ more) = catch_from n opened more

abbrev pub end_from : ℕ → ℕ → List ItemParts → ℕ
end_from n opened [] = n
end_from n opened (items.Label name ∷ more) = end_from n opened more
end_from n opened (items.Position p ∷ more) = end_from (suc n) opened more
end_from n opened (items.Try ∷ more) = end_from n (suc opened) more
end_from n opened (items.Catch ∷ more) = end_from n opened more
end_from n zero (items.End ∷ more) = n
end_from n (suc opened) (items.End ∷ more) = end_from n opened more

-- the regions in the order of their try bodies, from so many positions on
abbrev pub regions_from : ℕ → List ItemParts → List Region
regions_from n [] = []
regions_from n (items.Label name ∷ more) = regions_from n more
regions_from n (items.Position p ∷ more) = regions_from (suc n) more
regions_from n (items.Try ∷ more) = record { first = n; mid = catch_from n 0 more; last = end_from n 0 more } ∷ regions_from n more
regions_from n (items.Catch ∷ more) = regions_from n more
regions_from n (items.End ∷ more) = regions_from n more

abbrev pub resolved_body : Whole → BodyParts → Body
resolved_body w b = record {
  name = b.name;
  params = length b.params;
  locals = locals_of b;
  iters = b.iters;
  stated = option_map (resolved_type w) b.stated;
  positions = flat_map (resolved_item w b) b.items;
  regions = regions_from 0 b.items;
}

abbrev pub resolved_property : Whole → PropertyParts → Property
resolved_property w p = record { name = p.name; initial = p.initial; stated = option_map (resolved_type w) p.stated }

abbrev pub resolved_class : Whole → ClassParts → Class
resolved_class w c = record {
  name = c.name;
  parent = parent_in w c.parent;
  consts = c.consts;
  props = map (resolved_property w) c.props;
  methods = map (resolved_body w) c.methods;
}

abbrev pub resolved : Whole → Linked
resolved w = record { functions = map (resolved_body w) w.functions; classes = map (resolved_class w) w.classes }

-- no check fails, and the repository is what the parts link to
pub record LinksTo (w : Whole) (r : Linked) : Type 0 where
  pub sound : faults w ≡ []
  pub is : r ≡ resolved w
