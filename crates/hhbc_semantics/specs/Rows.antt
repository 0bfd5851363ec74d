-- What each instruction does.
use Rattle.std.specs.Prelude.{true, false, List, ◌∷◌}
use Rattle.hack_values.specs.declared.cell.Cell.TheVariants as cells
use Rattle.hack_values.specs.declared.cell.Slot.TheVariants as slots
use Rattle.hack_values.specs.declared.operators.BinOp.TheVariants as binary_ops
use Rattle.hack_values.specs.declared.operators.UnOp.TheVariants as unary_ops
use Rattle.hhbc_ops.specs.declared.op.Op.{Op}
use Rattle.hhbc_ops.specs.declared.op.Op.TheVariants as ops
use Rattle.hhbc_repo.specs.declared.code.Imm.{Imm}
use Rattle.hhbc_repo.specs.declared.body.Body.{Body}
use Rattle.hhbc_repo.specs.Codes.{local_of, int_of, count_of, iter_of}
use Rattle.hhbc_semantics.specs.Setting.{Setting}
use Rattle.hhbc_semantics.specs.Outcome.{User}
use Rattle.hhbc_semantics.specs.Frames.{World, Frame, Turn, Goes, Returns, Ends, Fails, ahead, push}
use Rattle.hhbc_semantics.specs.Immediates.{text_in, name_in, class_in, target_in, arms_in, set_op_in, inc_dec_in, is_type_in, constraint_in, iter_locals_in}
use Rattle.hhbc_semantics.specs.Operands.{with_cell, with_uninit}
use Rattle.hhbc_semantics.specs.Operators.{unary, binary, set_op_local, inc_dec_local}
use Rattle.hhbc_semantics.specs.Locals.{pop_local, store_local, get_local, get_local_quietly, get_local_below, push_local, unset_local}
use Rattle.hhbc_semantics.specs.Branches.{jump, jump_where, switch, switch_text}
use Rattle.hhbc_semantics.specs.CallTurns.{function_call, method_call, static_call, constructor_call}
use Rattle.hhbc_semantics.specs.Objects.{make_object, instance_of, throw, lock_object, get_this, get_this_quietly, check_this, get_constant}
use Rattle.hhbc_semantics.specs.Containers.{new_vec, new_dict, new_keyset, add_element, add_new_element}
use Rattle.hhbc_semantics.specs.Iterators.{iter_init, iter_next, iter_free}
use Rattle.hhbc_semantics.specs.Verification.{test_kind, test_local_kind, verify_local, verify_top, print}

-- what an instruction does
abbrev pub perform : Setting → Op → List Imm → Body → Frame → World → Turn
perform S ops.Nop imms b f w = Goes (ahead f f.stack) w
perform S ops.Null imms b f w = Goes (push f cells.Null) w
perform S ops.True imms b f w = Goes (push f (cells.Bool true)) w
perform S ops.False imms b f w = Goes (push f (cells.Bool false)) w
perform S ops.Int imms b f w = Goes (push f (cells.Int (int_of imms))) w
perform S ops.String imms b f w = Goes (push f (cells.Str (text_in imms))) w
perform S ops.NullUninit imms b f w = Goes (ahead f (slots.Uninit ∷ f.stack)) w
perform S ops.PopC imms b f w = with_cell f.stack w (λ c rest. Goes (ahead f rest) w)
perform S ops.PopU imms b f w = with_uninit f.stack w (λ rest. Goes (ahead f rest) w)
perform S ops.Dup imms b f w = with_cell f.stack w (λ c rest. Goes (push f c) w)
perform S ops.PopL imms b f w = pop_local (local_of imms) f w
perform S ops.SetL imms b f w = store_local (local_of imms) f w
perform S ops.CGetL imms b f w = get_local (local_of imms) b f w
perform S ops.CGetQuietL imms b f w = get_local_quietly (local_of imms) f w
perform S ops.CGetL2 imms b f w = get_local_below (local_of imms) b f w
perform S ops.PushL imms b f w = push_local (local_of imms) b f w
perform S ops.UnsetL imms b f w = unset_local (local_of imms) f w
perform S ops.SetOpL imms b f w = set_op_local (set_op_in imms) (local_of imms) b f w
perform S ops.IncDecL imms b f w = inc_dec_local (inc_dec_in imms) (local_of imms) b f w
perform S ops.Concat imms b f w = binary binary_ops.Concat f w
perform S ops.Add imms b f w = binary binary_ops.Add f w
perform S ops.Sub imms b f w = binary binary_ops.Sub f w
perform S ops.Mul imms b f w = binary binary_ops.Mul f w
perform S ops.Mod imms b f w = binary binary_ops.Mod f w
perform S ops.BitAnd imms b f w = binary binary_ops.BitAnd f w
perform S ops.BitOr imms b f w = binary binary_ops.BitOr f w
perform S ops.BitXor imms b f w = binary binary_ops.BitXor f w
perform S ops.Shl imms b f w = binary binary_ops.Shl f w
perform S ops.Shr imms b f w = binary binary_ops.Shr f w
perform S ops.Same imms b f w = binary binary_ops.Same f w
perform S ops.NSame imms b f w = binary binary_ops.NSame f w
perform S ops.Lt imms b f w = binary binary_ops.Lt f w
perform S ops.Lte imms b f w = binary binary_ops.Lte f w
perform S ops.Gt imms b f w = binary binary_ops.Gt f w
perform S ops.Gte imms b f w = binary binary_ops.Gte f w
perform S ops.Cmp imms b f w = binary binary_ops.Cmp f w
perform S ops.BitNot imms b f w = unary unary_ops.BitNot f w
perform S ops.CastInt imms b f w = unary unary_ops.CastInt f w
perform S ops.CastString imms b f w = unary unary_ops.CastString f w
perform S ops.Not imms b f w = unary unary_ops.Not f w
perform S ops.CastBool imms b f w = unary unary_ops.CastBool f w
perform S ops.IsTypeC imms b f w = test_kind (is_type_in imms) f w
perform S ops.IsTypeL imms b f w = test_local_kind (is_type_in imms) (local_of imms) b f w
perform S ops.InstanceOfD imms b f w = instance_of S (class_in imms) f w
perform S ops.NewVec imms b f w = new_vec (count_of imms) f w
perform S ops.NewKeysetArray imms b f w = new_keyset (count_of imms) f w
perform S ops.NewDictArray imms b f w = new_dict f w
perform S ops.AddElemC imms b f w = add_element f w
perform S ops.AddNewElemC imms b f w = add_new_element f w
perform S ops.Jmp imms b f w = Goes (jump f (target_in imms) f.stack) w
perform S ops.JmpZ imms b f w = jump_where false (target_in imms) f w
perform S ops.JmpNZ imms b f w = jump_where true (target_in imms) f w
perform S ops.Switch imms b f w = switch (int_of imms) (arms_in imms) f w
perform S ops.SSwitch imms b f w = switch_text (arms_in imms) f w
perform S ops.RetC imms b f w = with_cell f.stack w (λ c rest. Returns c w)
perform S ops.Throw imms b f w = throw S f w
perform S ops.Fatal imms b f w = with_cell f.stack w (λ c rest. Ends (Fails User) w)
perform S ops.ClsCnsD imms b f w = get_constant S (name_in imms) (class_in imms) f w
perform S ops.FCallFuncD imms b f w = function_call S (count_of imms) (name_in imms) f w
perform S ops.FCallObjMethodD imms b f w = method_call S (count_of imms) (name_in imms) f w
perform S ops.FCallClsMethodD imms b f w = static_call S (count_of imms) (name_in imms) (class_in imms) f w
perform S ops.NewObjD imms b f w = make_object S (class_in imms) f w
perform S ops.FCallCtor imms b f w = constructor_call S (count_of imms) f w
perform S ops.LockObj imms b f w = lock_object f w
perform S ops.This imms b f w = get_this f w
perform S ops.BareThis imms b f w = get_this_quietly f w
perform S ops.CheckThis imms b f w = check_this f w
perform S ops.IterInit imms b f w = iter_init (iter_of imms) (iter_locals_in imms) (target_in imms) f w
perform S ops.IterNext imms b f w = iter_next (iter_of imms) (iter_locals_in imms) (target_in imms) f w
perform S ops.IterFree imms b f w = iter_free (iter_of imms) f w
perform S ops.VerifyParamType imms b f w = verify_local S (local_of imms) (constraint_in imms) f w
perform S ops.VerifyRetTypeC imms b f w = verify_top S (constraint_in imms) f w
perform S ops.Print imms b f w = print f w
