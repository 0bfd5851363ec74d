use Rattle.std.proofs.Common.{◌≡◌, [], ◌∷◌}
use Rattle.hhas_lex.specs.Tokens.{Mark}
use Rattle.hhbc_ops.specs.declared.words.ImmKind.TheVariants as kinds
use Rattle.hhbc_repo.specs.declared.parts.ImmParts.TheVariants as imms
use Rattle.hhbc_repo.specs.Languages.{Behind}
use Rattle.hhbc_repo.specs.CodeSyntax.{AChange, ALabel, ALocal, AnIndex, AnInteger, ASetOp, AString, AWord}
use Rattle.hhbc_repo.specs.TypeSyntax.{AConstraint}
use Rattle.hhas_read.specs.Arms.{ArmsToEnd, StringArmsToEnd}
use Rattle.hhas_read.specs.OneWord.{AnIsType}
use Rattle.hhas_read.proofs.OperandForms.{kind_made, int, count, text, name, variable, iter, target, class, change, set_op, is_type, switch, string_switch, constraint}
use Rattle.hhas_read.proofs.reader.Reader.operand.Goals as goal

pub returns-in-Int : goal.returns-in-Int
returns-in-Int c =
    let is : c.args.kind ≡ kinds.Int = cc (c.in-Int.is) in
    kind_made c.args.kind kinds.Int is AnInteger imms.Int int c.args.self.now c.integer.new.self c.integer.result c.map.result c.map.ensures.cases c.integer.ensures

pub returns-in-Count : goal.returns-in-Count
returns-in-Count c =
    let is : c.args.kind ≡ kinds.Count = cc (c.in-Count.is) in
    kind_made c.args.kind kinds.Count is AnIndex imms.Count count c.args.self.now c.number.new.self c.number.result c.map-in-Count.result c.map-in-Count.ensures.cases c.number.ensures

pub returns-in-Str : goal.returns-in-Str
returns-in-Str c =
    let is : c.args.kind ≡ kinds.Str = cc (c.in-Str.is) in
    kind_made c.args.kind kinds.Str is AString imms.Str text c.args.self.now c.string.new.self c.string.result c.map-in-Str.result c.map-in-Str.ensures.cases c.string.ensures

pub returns-in-Name : goal.returns-in-Name
returns-in-Name c =
    let is : c.args.kind ≡ kinds.Name = cc (c.in-Name.is) in
    kind_made c.args.kind kinds.Name is AWord imms.Name name c.args.self.now c.word.new.self c.word.result c.map-in-Name.result c.map-in-Name.ensures.cases c.word.ensures

pub returns-in-Local : goal.returns-in-Local
returns-in-Local c =
    let is : c.args.kind ≡ kinds.Local = cc (c.in-Local.is) in
    kind_made c.args.kind kinds.Local is ALocal imms.Local variable c.args.self.now c.local.new.self c.local.result c.map-in-Local.result c.map-in-Local.ensures.cases c.local.ensures

pub returns-in-Iter : goal.returns-in-Iter
returns-in-Iter c =
    let is : c.args.kind ≡ kinds.Iter = cc (c.in-Iter.is) in
    kind_made c.args.kind kinds.Iter is AnIndex imms.Iter iter c.args.self.now c.index.new.self c.index.result c.map-in-Iter.result c.map-in-Iter.ensures.cases c.index.ensures

pub returns-in-Label : goal.returns-in-Label
returns-in-Label c =
    let is : c.args.kind ≡ kinds.Label = cc (c.in-Label.is) in
    kind_made c.args.kind kinds.Label is ALabel imms.Pos target c.args.self.now c.label.new.self c.label.result c.map-in-Label.result c.map-in-Label.ensures.cases c.label.ensures

pub returns-in-Class : goal.returns-in-Class
returns-in-Class c =
    let is : c.args.kind ≡ kinds.Class = cc (c.in-Class.is) in
    kind_made c.args.kind kinds.Class is AWord imms.Class class c.args.self.now c.word-in-Class.new.self c.word-in-Class.result c.map-in-Class.result c.map-in-Class.ensures.cases c.word-in-Class.ensures

pub returns-in-IncDec : goal.returns-in-IncDec
returns-in-IncDec c =
    let is : c.args.kind ≡ kinds.IncDec = cc (c.in-IncDec.is) in
    kind_made c.args.kind kinds.IncDec is AChange imms.IncDec change c.args.self.now c.inc_dec.new.self c.inc_dec.result c.map-in-IncDec.result c.map-in-IncDec.ensures.cases c.inc_dec.ensures

pub returns-in-SetOp : goal.returns-in-SetOp
returns-in-SetOp c =
    let is : c.args.kind ≡ kinds.SetOp = cc (c.in-SetOp.is) in
    kind_made c.args.kind kinds.SetOp is ASetOp imms.SetOp set_op c.args.self.now c.set_op.new.self c.set_op.result c.map-in-SetOp.result c.map-in-SetOp.ensures.cases c.set_op.ensures

pub returns-in-IsType : goal.returns-in-IsType
returns-in-IsType c =
    let is : c.args.kind ≡ kinds.IsType = cc (c.in-IsType.is) in
    kind_made c.args.kind kinds.IsType is AnIsType imms.IsType is_type c.args.self.now c.is_type.new.self c.is_type.result c.map-in-IsType.result c.map-in-IsType.ensures.cases c.is_type.ensures

pub returns-in-Switch : goal.returns-in-Switch
returns-in-Switch c =
    let is : c.args.kind ≡ kinds.Switch = cc (c.in-Switch.is) in
    kind_made c.args.kind kinds.Switch is (Behind (Mark 60 ∷ []) ArmsToEnd) imms.Arms switch c.args.self.now c.arms.new.self c.arms.result c.map-in-Switch.result c.map-in-Switch.ensures.cases c.arms.ensures

pub returns-in-SSwitch : goal.returns-in-SSwitch
returns-in-SSwitch c =
    let is : c.args.kind ≡ kinds.SSwitch = cc (c.in-SSwitch.is) in
    kind_made c.args.kind kinds.SSwitch is (Behind (Mark 60 ∷ []) StringArmsToEnd) imms.Arms string_switch c.args.self.now c.string_arms.new.self c.string_arms.result c.map-in-SSwitch.result c.map-in-SSwitch.ensures.cases c.string_arms.ensures

pub returns-in-Constraint : goal.returns-in-Constraint
returns-in-Constraint c =
    let is : c.args.kind ≡ kinds.Constraint = cc (c.in-Constraint.is) in
    kind_made c.args.kind kinds.Constraint is AConstraint imms.Constraint constraint c.args.self.now c.constraint_parts.new.self c.constraint_parts.result c.map-in-Constraint.result c.map-in-Constraint.ensures.cases c.constraint_parts.ensures
