-- How the reader's members of classes stand for those of the grammar, and of what classes are made.
use Rattle.std.specs.Prelude.{ℕ, false, List, [], ◌∷◌, ◌++◌, Option, nat_eq, codes}
use Rattle.hhas_lex.specs.Tokens.{Directive, Mark, Word}
use Rattle.hack_values.specs.declared.cell.Cell.{Cell}
use Rattle.hhbc_repo.specs.declared.repo.Const.{Const}
use Rattle.hhbc_repo.specs.declared.parts.ClassParts.{ClassParts}
use Rattle.hhbc_repo.specs.declared.parts.PropertyParts.{PropertyParts}
use Rattle.hhbc_repo.specs.declared.parts.TypeParts.{TypeParts}
use Rattle.hhbc_repo.specs.Languages.{Lang, Behind, Both, Ended, Many, Means, Perhaps}
use Rattle.hhbc_repo.specs.TypeSyntax.{AType}
use Rattle.hhbc_repo.specs.CodeSyntax.{AWord}
use Rattle.hhbc_repo.specs.TextSyntax as grammar
use Rattle.hhbc_repo.specs.TextSyntax.{AMember, AScalar, AnInitial, consts_of, props_of, methods_of}
use Rattle.hhas_read.specs.declared.class_members.Member.{Member}
use Rattle.hhas_read.specs.declared.class_members.Member.TheVariants as members
use Rattle.hhas_read.specs.declared.classes.Members.{Members}
use Rattle.hhas_read.specs.Reading.{Follow}

abbrev pub member_of : Member → grammar.Member
member_of (members.Const c) = grammar.AsConst c
member_of (members.Property p) = grammar.AsProperty p
member_of (members.Method b) = grammar.AsMethod b

abbrev pub AMemberOf : Lang Member
AMemberOf ts m = AMember ts (member_of m)

-- only this mark follows
abbrev pub only_mark : ℕ → Follow
only_mark b (Mark c) = nat_eq c b
only_mark b t = false

-- ---- what stands behind the directive of a constant

abbrev pub ConstValue : Lang Cell
ConstValue = Behind (Mark 61 ∷ []) (Ended AScalar (Mark 59 ∷ []))

abbrev pub const_of : List ℕ × Cell → Const
const_of p = record { name = p.0; value = p.1 }

abbrev pub ConstTail : Lang Const
ConstTail = Means const_of (Both AWord ConstValue)

-- ---- and of a property

abbrev pub HeldToEnd : Lang (Option TypeParts)
HeldToEnd = Ended (Perhaps (Behind (Directive (codes "holds") ∷ []) AType)) (Mark 59 ∷ [])

abbrev pub PropertyValue : Lang (Cell × Option TypeParts)
PropertyValue = Behind (Mark 61 ∷ []) (Both AnInitial HeldToEnd)

abbrev pub property_of : List ℕ × (Cell × Option TypeParts) → PropertyParts
property_of p = record { name = p.0; initial = p.1.0; stated = p.1.1 }

abbrev pub PropertyTail : Lang PropertyParts
PropertyTail = Means property_of (Both AWord PropertyValue)

-- ---- members, those of each kind in their order

abbrev pub members_of : List grammar.Member → Members
members_of ms = record { consts = consts_of ms; props = props_of ms; methods = methods_of ms }

-- and one more
abbrev pub with_member : grammar.Member → Members → Members
with_member (grammar.AsConst c) ms = record ms { consts = ms.consts ++ c ∷ [] }
with_member (grammar.AsProperty p) ms = record ms { props = ms.props ++ p ∷ [] }
with_member (grammar.AsMethod b) ms = record ms { methods = ms.methods ++ b ∷ [] }

abbrev pub MembersToEnd : Lang Members
MembersToEnd = Ended (Means members_of (Many AMember)) (Mark 125 ∷ [])

-- ---- classes

abbrev pub Braced : Lang Members
Braced = Behind (Mark 123 ∷ []) MembersToEnd

abbrev pub AParent : Lang (List ℕ)
AParent = Behind (Word (codes "extends") ∷ []) AWord

abbrev pub ParentAndMembers : Lang (Option (List ℕ) × Members)
ParentAndMembers = Both (Perhaps AParent) Braced

abbrev pub class_of : List ℕ × (Option (List ℕ) × Members) → ClassParts
class_of p = record { name = p.0; parent = p.1.0; consts = p.1.1.consts; props = p.1.1.props; methods = p.1.1.methods }

abbrev pub ClassTail : Lang ClassParts
ClassTail = Means class_of (Both AWord ParentAndMembers)
