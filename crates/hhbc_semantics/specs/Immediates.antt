-- The operands of an instruction: the first one of each kind. An instruction that has its operands has those that its row asks for.
use Rattle.std.specs.Prelude.{ℕ, List, [], ◌∷◌, Option, None}
use Rattle.type_lattice.specs.declared.types.HType.{HType}
use Rattle.type_lattice.specs.Types.{cell}
use Rattle.hhbc_ops.specs.declared.words.SetOpOp.{SetOpOp}
use Rattle.hhbc_ops.specs.declared.words.SetOpOp.TheVariants as setops
use Rattle.hhbc_ops.specs.declared.words.IncDecOp.{IncDecOp}
use Rattle.hhbc_ops.specs.declared.words.IncDecOp.TheVariants as incdecs
use Rattle.hhbc_ops.specs.declared.words.IsTypeOp.{IsTypeOp}
use Rattle.hhbc_ops.specs.declared.words.IsTypeOp.TheVariants as istypes
use Rattle.hhbc_repo.specs.declared.code.Arm.{Arm}
use Rattle.hhbc_repo.specs.declared.code.Imm.{Imm}
use Rattle.hhbc_repo.specs.declared.code.Imm.TheVariants as imms

abbrev pub text_in : List Imm → List ℕ
text_in [] = []
text_in (imms.Str s ∷ is) = s
text_in (_ ∷ is) = text_in is

abbrev pub name_in : List Imm → List ℕ
name_in [] = []
name_in (imms.Name name ∷ is) = name
name_in (_ ∷ is) = name_in is

abbrev pub class_in : List Imm → ℕ
class_in [] = 0
class_in (imms.Class c ∷ is) = c
class_in (_ ∷ is) = class_in is

abbrev pub target_in : List Imm → ℕ
target_in [] = 0
target_in (imms.Pos p ∷ is) = p
target_in (_ ∷ is) = target_in is

abbrev pub arms_in : List Imm → List Arm
arms_in [] = []
arms_in (imms.Arms arms ∷ is) = arms
arms_in (_ ∷ is) = arms_in is

abbrev pub set_op_in : List Imm → SetOpOp
set_op_in [] = setops.PlusEqual
set_op_in (imms.SetOp op ∷ is) = op
set_op_in (_ ∷ is) = set_op_in is

abbrev pub inc_dec_in : List Imm → IncDecOp
inc_dec_in [] = incdecs.PreInc
inc_dec_in (imms.IncDec op ∷ is) = op
inc_dec_in (_ ∷ is) = inc_dec_in is

abbrev pub is_type_in : List Imm → IsTypeOp
is_type_in [] = istypes.Null
is_type_in (imms.IsType op ∷ is) = op
is_type_in (_ ∷ is) = is_type_in is

abbrev pub constraint_in : List Imm → HType
constraint_in [] = cell
constraint_in (imms.Constraint t ∷ is) = t
constraint_in (_ ∷ is) = constraint_in is

-- the locals of an iteration: the key's, where it is told, and the value's
abbrev pub iter_locals_in : List Imm → Option ℕ × ℕ
iter_locals_in [] = (None, 0)
iter_locals_in (imms.IterLocals key value ∷ is) = (key, value)
iter_locals_in (_ ∷ is) = iter_locals_in is
