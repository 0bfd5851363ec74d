-- How long the lists of parts and of a repository are, as tests: each of them has fewer elements than a number.
use Rattle.std.specs.Prelude.{ℕ, Bool, true, ◌&&◌, nat_lt, List, length}
use Rattle.std.specs.List.{list_all}
use Rattle.type_lattice.specs.InRange.{where_there}
use Rattle.hhbc_repo.specs.declared.parts.BodyParts.{BodyParts}
use Rattle.hhbc_repo.specs.declared.parts.ClassParts.{ClassParts}
use Rattle.hhbc_repo.specs.declared.parts.PropertyParts.{PropertyParts}
use Rattle.hhbc_repo.specs.declared.parts.TypeParts.{TypeParts}
use Rattle.hhbc_repo.specs.declared.parts.ItemParts.{ItemParts}
use Rattle.hhbc_repo.specs.declared.parts.ItemParts.TheVariants as items
use Rattle.hhbc_repo.specs.declared.parts.PositionParts.{PositionParts}
use Rattle.hhbc_repo.specs.declared.parts.AssertParts.{AssertParts}
use Rattle.hhbc_repo.specs.declared.parts.AssertParts.TheVariants as claims
use Rattle.hhbc_repo.specs.declared.parts.CodeParts.{CodeParts}
use Rattle.hhbc_repo.specs.declared.parts.CodeParts.TheVariants as forms
use Rattle.hhbc_repo.specs.declared.parts.ImmParts.{ImmParts}
use Rattle.hhbc_repo.specs.declared.parts.ImmParts.TheVariants as operands
use Rattle.hhbc_repo.specs.declared.body.Body.{Body}
use Rattle.hhbc_repo.specs.declared.body.Position.{Position}
use Rattle.hhbc_repo.specs.declared.code.Code.{Code}
use Rattle.hhbc_repo.specs.declared.code.Code.TheVariants as codes
use Rattle.hhbc_repo.specs.declared.code.Imm.{Imm}
use Rattle.hhbc_repo.specs.declared.code.Imm.TheVariants as imms
use Rattle.hhbc_repo.specs.declared.repo.Class.{Class}
use Rattle.hhbc_repo.specs.Linked.{Linked}
use Rattle.hhbc_repo.specs.LinkFaults.{Whole}

abbrev pub fewer : {A : Type 0} → ℕ → List A → Bool
fewer n xs = nat_lt (length xs) n

-- ---- parts

abbrev pub type_parts_fewer : ℕ → TypeParts → Bool
type_parts_fewer n t = fewer n t.classes

abbrev pub operand_parts_fewer : ℕ → ImmParts → Bool
operand_parts_fewer n (operands.Constraint t) = type_parts_fewer n t
operand_parts_fewer n (operands.Arms arms) = fewer n arms
operand_parts_fewer n _ = true

abbrev pub code_parts_fewer : ℕ → CodeParts → Bool
code_parts_fewer n (forms.Plain i) = fewer n i.imms && list_all (operand_parts_fewer n) i.imms
code_parts_fewer n (forms.Member m) = fewer n m.dims

abbrev pub assert_parts_fewer : ℕ → AssertParts → Bool
assert_parts_fewer n (claims.Local name t) = type_parts_fewer n t
assert_parts_fewer n (claims.Stack i t) = type_parts_fewer n t

abbrev pub position_parts_fewer : ℕ → PositionParts → Bool
position_parts_fewer n p = fewer n p.asserts && (list_all (assert_parts_fewer n) p.asserts && code_parts_fewer n p.code)

abbrev pub item_parts_fewer : ℕ → ItemParts → Bool
item_parts_fewer n (items.Position p) = position_parts_fewer n p
item_parts_fewer n _ = true

abbrev pub body_parts_fewer : ℕ → BodyParts → Bool
body_parts_fewer n b =
    fewer n b.params && (fewer n b.locals && (where_there (type_parts_fewer n) b.stated && (fewer n b.items && list_all (item_parts_fewer n) b.items)))

abbrev pub property_parts_fewer : ℕ → PropertyParts → Bool
property_parts_fewer n p = where_there (type_parts_fewer n) p.stated

abbrev pub class_parts_fewer : ℕ → ClassParts → Bool
class_parts_fewer n c =
    fewer n c.consts && (fewer n c.props && (fewer n c.methods && (list_all (property_parts_fewer n) c.props && list_all (body_parts_fewer n) c.methods)))

abbrev pub parts_fewer : ℕ → Whole → Bool
parts_fewer n w =
    fewer n w.functions && (fewer n w.classes && (list_all (body_parts_fewer n) w.functions && list_all (class_parts_fewer n) w.classes))

-- ---- repositories

abbrev pub operand_fewer : ℕ → Imm → Bool
operand_fewer n (imms.Arms arms) = fewer n arms
operand_fewer n _ = true

abbrev pub code_fewer : ℕ → Code → Bool
code_fewer n (codes.Plain i) = fewer n i.imms && list_all (operand_fewer n) i.imms
code_fewer n (codes.Member m) = fewer n m.dims

abbrev pub position_fewer : ℕ → Position → Bool
position_fewer n p = fewer n p.asserts && code_fewer n p.code

abbrev pub body_fewer : ℕ → Body → Bool
body_fewer n b = fewer n b.locals && (fewer n b.positions && (fewer n b.regions && list_all (position_fewer n) b.positions))

abbrev pub class_fewer : ℕ → Class → Bool
class_fewer n c = fewer n c.consts && (fewer n c.props && (fewer n c.methods && list_all (body_fewer n) c.methods))

abbrev pub lists_fewer : ℕ → Linked → Bool
lists_fewer n r = fewer n r.functions && (fewer n r.classes && (list_all (body_fewer n) r.functions && list_all (class_fewer n) r.classes))
