-- What operators answer, and what they raise.
use Rattle.std.specs.Prelude.{ℕ, ℤ, pos, ◌+ℤ◌, ◌-ℤ◌, ◌∷◌, Result, Ok, Err, codes}
use Rattle.std.specs.Int.{w64, int_wrap}
use Rattle.hack_values.specs.declared.cell.Cell.{Cell}
use Rattle.hack_values.specs.declared.cell.Cell.TheVariants as cells
use Rattle.hack_values.specs.declared.cell.Slot.TheVariants as slots
use Rattle.hack_values.specs.declared.operators.OpFault.{OpFault}
use Rattle.hack_values.specs.declared.operators.OpFault.TheVariants as faults
use Rattle.hack_values.specs.declared.operators.BinOp.{BinOp}
use Rattle.hack_values.specs.declared.operators.BinOp.TheVariants as binary_ops
use Rattle.hack_values.specs.declared.operators.UnOp.{UnOp}
use Rattle.hack_values.specs.Operations.{op1, op2}
use Rattle.hhbc_ops.specs.declared.words.SetOpOp.{SetOpOp}
use Rattle.hhbc_ops.specs.declared.words.SetOpOp.TheVariants as setops
use Rattle.hhbc_ops.specs.declared.words.IncDecOp.{IncDecOp}
use Rattle.hhbc_ops.specs.declared.words.IncDecOp.TheVariants as incdecs
use Rattle.hhbc_repo.specs.declared.body.Body.{Body}
use Rattle.hhbc_semantics.specs.Outcome.{Size}
use Rattle.hhbc_semantics.specs.Frames.{World, Frame, Turn, Goes, Ends, Fails, ahead, push, set_local}
use Rattle.hhbc_semantics.specs.Exceptions.{division_by_zero, raises, refuses}
use Rattle.hhbc_semantics.specs.Operands.{with_cell, with_local}

-- what a fault of an operator does; no operator answers want of memory, which ends a run as a too great value does
abbrev pub faulted : OpFault → World → Turn
faulted faults.BadOperand w = refuses (codes "bad operand") w
faulted faults.DivisionByZero w = raises division_by_zero (codes "division by zero") w
faulted faults.TooLarge w = Ends (Fails Size) w
faulted faults.NoMemory w = Ends (Fails Size) w

-- the operator's cell, or its fault
abbrev pub with_answer : Result Cell OpFault → World → (Cell → Turn) → Turn
with_answer (Ok c) w go = go c
with_answer (Err fault) w go = faulted fault w

-- one operand, and two, the left one below the right one
abbrev pub unary : UnOp → Frame → World → Turn
unary op f w = with_cell f.stack w (λ c rest. with_answer (op1 op c) w (λ x. Goes (ahead f (slots.Cell x ∷ rest)) w))

abbrev pub binary : BinOp → Frame → World → Turn
binary op f w =
    with_cell f.stack w (λ right rest. with_cell rest w
    (λ left below. with_answer (op2 op left right) w (λ x. Goes (ahead f (slots.Cell x ∷ below)) w)))

-- the operator of an assignment
abbrev pub operator_of : SetOpOp → BinOp
operator_of setops.PlusEqual = binary_ops.Add
operator_of setops.MinusEqual = binary_ops.Sub
operator_of setops.MulEqual = binary_ops.Mul
operator_of setops.ModEqual = binary_ops.Mod
operator_of setops.ConcatEqual = binary_ops.Concat
operator_of setops.AndEqual = binary_ops.BitAnd
operator_of setops.OrEqual = binary_ops.BitOr
operator_of setops.XorEqual = binary_ops.BitXor
operator_of setops.SlEqual = binary_ops.Shl
operator_of setops.SrEqual = binary_ops.Shr

-- an int, one more or one less, within 64 bits
abbrev pub stepped : IncDecOp → ℤ → ℤ
stepped incdecs.PreInc i = int_wrap w64 (i +ℤ pos 1)
stepped incdecs.PostInc i = int_wrap w64 (i +ℤ pos 1)
stepped incdecs.PreDec i = int_wrap w64 (i -ℤ pos 1)
stepped incdecs.PostDec i = int_wrap w64 (i -ℤ pos 1)

-- what is pushed: the new int, or the old one
abbrev pub shown : IncDecOp → ℤ → ℤ
shown incdecs.PreInc i = stepped incdecs.PreInc i
shown incdecs.PostInc i = i
shown incdecs.PreDec i = stepped incdecs.PreDec i
shown incdecs.PostDec i = i

-- an int; every other cell is a bad operand
abbrev pub with_int : Cell → World → (ℤ → Turn) → Turn
with_int (cells.Int i) w go = go i
with_int _ w go = refuses (codes "bad operand") w

-- the local becomes what the operator gives of it and the topmost cell, which is pushed in that one's place
abbrev pub set_op_local : SetOpOp → ℕ → Body → Frame → World → Turn
set_op_local op l b f w =
    with_local b f w l (λ old. with_cell f.stack w
    (λ c rest. with_answer (op2 (operator_of op) old c) w
    (λ x. Goes (ahead (set_local f l (slots.Cell x)) (slots.Cell x ∷ rest)) w)))

abbrev pub inc_dec_local : IncDecOp → ℕ → Body → Frame → World → Turn
inc_dec_local op l b f w =
    with_local b f w l (λ old. with_int old w
    (λ i. Goes (push (set_local f l (slots.Cell (cells.Int (stepped op i)))) (cells.Int (shown op i))) w))
