-- Each instruction leaves a frame that has its slots in a shape that an edge hands on.
use Rattle.std.proofs.Common.{◌≡◌, ℕ, ◌<◌, refl, sym, subst, true, false, ◌&&◌, drop, nat_lt, ltb-true, leb-true, Option, Some, List, [], ◌∷◌, length}
use Rattle.std.proofs.lemmas.Bool.{and_parts}
use Rattle.hack_values.specs.declared.cell.Cell.TheVariants as cells
use Rattle.hack_values.specs.declared.cell.Slot.TheVariants as slots
use Rattle.hack_values.specs.declared.operators.BinOp.TheVariants as binary_ops
use Rattle.hack_values.specs.declared.operators.UnOp.TheVariants as unary_ops
use Rattle.hhbc_ops.specs.declared.op.Op.{Op}
use Rattle.hhbc_ops.specs.declared.op.Op.TheVariants as ops
use Rattle.hhbc_ops.specs.declared.words.ImmKind.{ImmKind}
use Rattle.hhbc_ops.specs.declared.words.ImmKind.TheVariants as imm_kinds
use Rattle.hhbc_ops.specs.declared.words.Flavour.TheVariants.{U}
use Rattle.hhbc_ops.specs.Ops.{kinds_of}
use Rattle.hhbc_repo.specs.declared.code.Arm.{Arm}
use Rattle.hhbc_repo.specs.declared.code.Imm.{Imm}
use Rattle.hhbc_repo.specs.declared.code.Imm.TheVariants as imms
use Rattle.hhbc_repo.specs.declared.code.Code.{Code}
use Rattle.hhbc_repo.specs.declared.code.Code.TheVariants as kinds
use Rattle.hhbc_repo.specs.declared.body.Body.{Body}
use Rattle.hhbc_repo.specs.Codes.{local_of, int_of, count_of, iter_of, labels, op_pops, op_iter}
use Rattle.hhbc_repo.specs.Shapes.{Shape, AllPass, iter_checks, stack_left}
use Rattle.hhbc_repo.specs.Within.{Bounds, bounds_of, operands_within, arms_within, text_arms_within, local_within}
use Rattle.hhas_lex.specs.Shape.{is_int64}
use Rattle.type_lattice.specs.InRange.{where_there}
use Rattle.hhbc_repo.proofs.Elements.{before_last}
use Rattle.hhbc_semantics.specs.Setting.{Setting}
use Rattle.hhbc_semantics.specs.Outcome.{User}
use Rattle.hhbc_semantics.specs.Frames.{Frame}
use Rattle.hhbc_semantics.specs.Entering.{function_from}
use Rattle.hhbc_semantics.specs.CallTurns.{method_in, constructor}
use Rattle.hhbc_semantics.specs.Immediates.{text_in, name_in, class_in, target_in, arms_in, set_op_in, inc_dec_in, is_type_in, constraint_in, iter_locals_in}
use Rattle.hhbc_semantics.specs.Objects.{this_or_null}
use Rattle.hhbc_semantics.specs.Branches.{switch, switch_text}
use Rattle.hhbc_semantics.specs.Rows.{perform}
use Rattle.hhbc_semantics.specs.ShapeAnalysis.{AreOfFlavours, AreLive}
use Rattle.hhbc_semantics.specs.ShapeRows.{Fits, KeepsShape}
use Rattle.hhbc_semantics.proofs.ShapeOperands.{HasOnTop, on_top, fit_next}
use Rattle.hhbc_semantics.proofs.ShapeSimple.{fit_push, fit_pop, fit_pop_uninit, fit_dup, fit_unary, fit_binary, fit_set_op, fit_inc_dec, fit_pop_local, fit_store_local, fit_get_local, fit_get_quietly, fit_get_below, fit_push_local, fit_unset_local, fit_test_kind, fit_test_local_kind, fit_verify_local, fit_verify_top, fit_print, fit_make_object, fit_instance_of, fit_lock_object, fit_get_this, fit_check_this, fit_get_constant, fit_new_vec, fit_new_keyset, fit_add_element, fit_add_new_element}
use Rattle.hhbc_semantics.proofs.ShapeEdges.{IsTarget, targets_of, fit_jump, fit_jump_where, fit_switch, fit_switch_text, fit_return, fit_fatal, fit_throw, fit_iter_init, fit_iter_next, fit_iter_free}
use Rattle.hhbc_semantics.proofs.ShapeCalls.{IsKnown, fit_function_call, fit_static_call, fit_method_call, fit_constructor_call}

-- operands that are within the bounds of a body
local_inside : (B : Bounds) (ks : List ImmKind) (is : List Imm) → operands_within B (imm_kinds.Local ∷ ks) is ≡ true → local_of is < B.locals
local_inside B ks [] e = absurd (cc)
local_inside B ks (imms.Local l ∷ is) e = ltb-true _ _ (and_parts (nat_lt l B.locals) _ e).0
local_inside B ks (_ ∷ is) e = absurd (cc)

iter_inside : (B : Bounds) (ks : List ImmKind) (is : List Imm) → operands_within B (imm_kinds.Iter ∷ ks) is ≡ true → iter_of is < B.iters
iter_inside B ks [] e = absurd (cc)
iter_inside B ks (imms.Iter i ∷ is) e = ltb-true _ _ (and_parts (nat_lt i B.iters) _ e).0
iter_inside B ks (_ ∷ is) e = absurd (cc)

-- the bodies that calls find are known
pub record FindsKnown (S : Setting) : Type 0 where
  pub functions : (name : List ℕ) (n : ℕ) (b : Body) → function_from 0 S.repo.functions name ≡ Some (n, b) → IsKnown S.repo n b
  pub methods : (o : Option ℕ) (name : List ℕ) (n : ℕ) (b : Body) → method_in S.repo o name ≡ Some (n, b) → IsKnown S.repo n b

abbrev plain_code : Op → List Imm → Code
plain_code op is = kinds.Plain (record { op = op; imms = is })

-- targets of the codes that have a label
jump_target : (op : Op) (is : List Imm) (B : Bounds) → operands_within B (imm_kinds.Label ∷ []) is ≡ true → IsTarget (labels (plain_code op is)) (target_in is)
jump_target op [] B e = absurd (cc)
jump_target op (imms.Pos p ∷ is) B e = record { place = 0; there = refl }
jump_target op (_ ∷ is) B e = absurd (cc)

locals_target : (op : Op) (is : List Imm) (B : Bounds) → operands_within B (imm_kinds.IterLocals ∷ imm_kinds.Label ∷ []) is ≡ true
    → IsTarget (labels (plain_code op is)) (target_in is)
locals_target op [] B e = absurd (cc)
locals_target op (imms.IterLocals k v ∷ is) B e = let x = jump_target op is B (and_parts (where_there (local_within B) k && local_within B v) _ e).1 in record { place = x.place; there = x.there }
locals_target op (_ ∷ is) B e = absurd (cc)

iter_target : (op : Op) (is : List Imm) (B : Bounds) → operands_within B (imm_kinds.Iter ∷ imm_kinds.IterLocals ∷ imm_kinds.Label ∷ []) is ≡ true
    → IsTarget (labels (plain_code op is)) (target_in is)
iter_target op [] B e = absurd (cc)
iter_target op (imms.Iter i ∷ is) B e = let x = locals_target op is B (and_parts (nat_lt i B.iters) _ e).1 in record { place = x.place; there = x.there }
iter_target op (_ ∷ is) B e = absurd (cc)

-- a switch has an arm, and its arms are its labels
pub record HasArms (op : Op) (is : List Imm) : Type 0 where
  pub first : Arm
  pub more : List Arm
  pub are : arms_in is ≡ first ∷ more
  pub among : (q : ℕ) → IsTarget (targets_of (first ∷ more)) q → IsTarget (labels (plain_code op is)) q

arms_alone : (B : Bounds) (op : Op) (a : Arm) (arms : List Arm) → HasArms op (imms.Arms (a ∷ arms) ∷ [])
arms_alone B op a arms = record {
  first = a;
  more = arms;
  are = refl;
  among = λ q x. record { place = x.place; there = before_last (targets_of (a ∷ arms)) [] x.place q x.there };
}

int_arms : (op : Op) (is : List Imm) (B : Bounds) → operands_within B (imm_kinds.Switch ∷ []) is ≡ true → HasArms op is
int_arms op [] B e = absurd (cc)
int_arms op (imms.Arms [] ∷ is) B e = absurd (cc)
int_arms op (imms.Arms (a ∷ arms) ∷ []) B e = arms_alone B op a arms
int_arms op (imms.Arms (a ∷ arms) ∷ x ∷ is) B e = absurd (let k = (and_parts (arms_within B (a ∷ arms)) _ e).1 in cc)
int_arms op (_ ∷ is) B e = absurd (cc)

text_arms : (op : Op) (is : List Imm) (B : Bounds) → operands_within B (imm_kinds.SSwitch ∷ []) is ≡ true → HasArms op is
text_arms op [] B e = absurd (cc)
text_arms op (imms.Arms [] ∷ is) B e = absurd (cc)
text_arms op (imms.Arms (a ∷ arms) ∷ []) B e = arms_alone B op a arms
text_arms op (imms.Arms (a ∷ arms) ∷ x ∷ is) B e = absurd (let k = (and_parts (text_arms_within B (a ∷ arms)) _ e).1 in cc)
text_arms op (_ ∷ is) B e = absurd (cc)

arms_behind : (op : Op) (is : List Imm) (B : Bounds) → operands_within B (imm_kinds.Int ∷ imm_kinds.Switch ∷ []) is ≡ true → HasArms op is
arms_behind op [] B e = absurd (cc)
arms_behind op (imms.Int i ∷ is) B e =
    let x = int_arms op is B (and_parts (is_int64 i) _ e).1 in
    record { first = x.first; more = x.more; are = x.are; among = x.among }
arms_behind op (_ ∷ is) B e = absurd (cc)

module _ (S : Setting) (known : FindsKnown S) (b : Body) (f : Frame) (s : Shape) where
  abbrev owed : Op → List Imm → Type 0
  owed op is = Fits S.repo (plain_code op is) s.live (stack_left (plain_code op is) s.stack) f (λ w. perform S op is b f w)

  by_op : (classes : ℕ) (op : Op) (is : List Imm) → operands_within (bounds_of classes b) (kinds_of op) is ≡ true → length f.locals ≡ length b.locals
      → AreOfFlavours f.stack s.stack → AreLive f.iters s.live → length f.iters ≡ b.iters → HasOnTop (op_pops op is) s.stack
      → AllPass (iter_checks (op_iter op is) s.live) → owed op is
  by_op classes ops.Nop is e l t v n h a = fit_next S.repo (plain_code ops.Nop is) s.live f (record { on = refl; idle = refl; lives = v }) s.stack f.stack t
  by_op classes ops.Null is e l t v n h a = fit_push S.repo (plain_code ops.Null is) s.live f s.stack t (record { on = refl; idle = refl; lives = v }) cells.Null
  by_op classes ops.True is e l t v n h a = fit_push S.repo (plain_code ops.True is) s.live f s.stack t (record { on = refl; idle = refl; lives = v }) (cells.Bool true)
  by_op classes ops.False is e l t v n h a = fit_push S.repo (plain_code ops.False is) s.live f s.stack t (record { on = refl; idle = refl; lives = v }) (cells.Bool false)
  by_op classes ops.Int is e l t v n h a = fit_push S.repo (plain_code ops.Int is) s.live f s.stack t (record { on = refl; idle = refl; lives = v }) (cells.Int (int_of is))
  by_op classes ops.String is e l t v n h a = fit_push S.repo (plain_code ops.String is) s.live f s.stack t (record { on = refl; idle = refl; lives = v }) (cells.Str (text_in is))
  by_op classes ops.NullUninit is e l t v n h a = fit_next S.repo (plain_code ops.NullUninit is) s.live f (record { on = refl; idle = refl; lives = v }) (U ∷ s.stack) (slots.Uninit ∷ f.stack) (tt, t)
  by_op classes ops.PopC is e l t v n h a = fit_pop S.repo (plain_code ops.PopC is) s.live f s.stack t (record { on = refl; idle = refl; lives = v }) h
  by_op classes ops.PopU is e l t v n h a = fit_pop_uninit S.repo (plain_code ops.PopU is) s.live f s.stack t (record { on = refl; idle = refl; lives = v }) h
  by_op classes ops.Dup is e l t v n h a = fit_dup S.repo (plain_code ops.Dup is) s.live f s.stack t (record { on = refl; idle = refl; lives = v }) h
  by_op classes ops.PopL is e l t v n h a = fit_pop_local S.repo (plain_code ops.PopL is) s.live f s.stack t (record { on = refl; idle = refl; lives = v }) (local_of is) h
  by_op classes ops.SetL is e l t v n h a = fit_store_local S.repo (plain_code ops.SetL is) s.live f s.stack t (record { on = refl; idle = refl; lives = v }) (local_of is) h
  by_op classes ops.CGetL is e l t v n h a = fit_get_local S.repo (plain_code ops.CGetL is) s.live f s.stack t (record { on = refl; idle = refl; lives = v }) (local_of is) b (subst (λ m. local_of is < m) (sym l) (local_inside (bounds_of classes b) [] is e)) refl
  by_op classes ops.CGetQuietL is e l t v n h a = fit_get_quietly S.repo (plain_code ops.CGetQuietL is) s.live f s.stack t (record { on = refl; idle = refl; lives = v }) (local_of is) (subst (λ m. local_of is < m) (sym l) (local_inside (bounds_of classes b) [] is e))
  by_op classes ops.CGetL2 is e l t v n h a = fit_get_below S.repo (plain_code ops.CGetL2 is) s.live f s.stack t (record { on = refl; idle = refl; lives = v }) (local_of is) b (subst (λ m. local_of is < m) (sym l) (local_inside (bounds_of classes b) [] is e)) refl h
  by_op classes ops.PushL is e l t v n h a = fit_push_local S.repo (plain_code ops.PushL is) s.live f s.stack t (record { on = refl; idle = refl; lives = v }) (local_of is) b (subst (λ m. local_of is < m) (sym l) (local_inside (bounds_of classes b) [] is e)) refl
  by_op classes ops.UnsetL is e l t v n h a = fit_unset_local S.repo (plain_code ops.UnsetL is) s.live f s.stack t (record { on = refl; idle = refl; lives = v }) (local_of is)
  by_op classes ops.SetOpL is e l t v n h a = fit_set_op S.repo (plain_code ops.SetOpL is) s.live f s.stack t (record { on = refl; idle = refl; lives = v }) (set_op_in is) (local_of is) b (subst (λ m. local_of is < m) (sym l) (local_inside (bounds_of classes b) (imm_kinds.SetOp ∷ []) is e)) refl h
  by_op classes ops.IncDecL is e l t v n h a = fit_inc_dec S.repo (plain_code ops.IncDecL is) s.live f s.stack t (record { on = refl; idle = refl; lives = v }) (inc_dec_in is) (local_of is) b (subst (λ m. local_of is < m) (sym l) (local_inside (bounds_of classes b) (imm_kinds.IncDec ∷ []) is e)) refl
  by_op classes ops.Concat is e l t v n h a = fit_binary S.repo (plain_code ops.Concat is) s.live f s.stack t (record { on = refl; idle = refl; lives = v }) binary_ops.Concat (λ x y fault k. refl) h
  by_op classes ops.Add is e l t v n h a = fit_binary S.repo (plain_code ops.Add is) s.live f s.stack t (record { on = refl; idle = refl; lives = v }) binary_ops.Add (λ x y fault k. refl) h
  by_op classes ops.Sub is e l t v n h a = fit_binary S.repo (plain_code ops.Sub is) s.live f s.stack t (record { on = refl; idle = refl; lives = v }) binary_ops.Sub (λ x y fault k. refl) h
  by_op classes ops.Mul is e l t v n h a = fit_binary S.repo (plain_code ops.Mul is) s.live f s.stack t (record { on = refl; idle = refl; lives = v }) binary_ops.Mul (λ x y fault k. refl) h
  by_op classes ops.Mod is e l t v n h a = fit_binary S.repo (plain_code ops.Mod is) s.live f s.stack t (record { on = refl; idle = refl; lives = v }) binary_ops.Mod (λ x y fault k. refl) h
  by_op classes ops.BitAnd is e l t v n h a = fit_binary S.repo (plain_code ops.BitAnd is) s.live f s.stack t (record { on = refl; idle = refl; lives = v }) binary_ops.BitAnd (λ x y fault k. refl) h
  by_op classes ops.BitOr is e l t v n h a = fit_binary S.repo (plain_code ops.BitOr is) s.live f s.stack t (record { on = refl; idle = refl; lives = v }) binary_ops.BitOr (λ x y fault k. refl) h
  by_op classes ops.BitXor is e l t v n h a = fit_binary S.repo (plain_code ops.BitXor is) s.live f s.stack t (record { on = refl; idle = refl; lives = v }) binary_ops.BitXor (λ x y fault k. refl) h
  by_op classes ops.Shl is e l t v n h a = fit_binary S.repo (plain_code ops.Shl is) s.live f s.stack t (record { on = refl; idle = refl; lives = v }) binary_ops.Shl (λ x y fault k. refl) h
  by_op classes ops.Shr is e l t v n h a = fit_binary S.repo (plain_code ops.Shr is) s.live f s.stack t (record { on = refl; idle = refl; lives = v }) binary_ops.Shr (λ x y fault k. refl) h
  by_op classes ops.Same is e l t v n h a = fit_binary S.repo (plain_code ops.Same is) s.live f s.stack t (record { on = refl; idle = refl; lives = v }) binary_ops.Same (λ x y fault k. absurd (cc)) h
  by_op classes ops.NSame is e l t v n h a = fit_binary S.repo (plain_code ops.NSame is) s.live f s.stack t (record { on = refl; idle = refl; lives = v }) binary_ops.NSame (λ x y fault k. absurd (cc)) h
  by_op classes ops.Lt is e l t v n h a = fit_binary S.repo (plain_code ops.Lt is) s.live f s.stack t (record { on = refl; idle = refl; lives = v }) binary_ops.Lt (λ x y fault k. refl) h
  by_op classes ops.Lte is e l t v n h a = fit_binary S.repo (plain_code ops.Lte is) s.live f s.stack t (record { on = refl; idle = refl; lives = v }) binary_ops.Lte (λ x y fault k. refl) h
  by_op classes ops.Gt is e l t v n h a = fit_binary S.repo (plain_code ops.Gt is) s.live f s.stack t (record { on = refl; idle = refl; lives = v }) binary_ops.Gt (λ x y fault k. refl) h
  by_op classes ops.Gte is e l t v n h a = fit_binary S.repo (plain_code ops.Gte is) s.live f s.stack t (record { on = refl; idle = refl; lives = v }) binary_ops.Gte (λ x y fault k. refl) h
  by_op classes ops.Cmp is e l t v n h a = fit_binary S.repo (plain_code ops.Cmp is) s.live f s.stack t (record { on = refl; idle = refl; lives = v }) binary_ops.Cmp (λ x y fault k. refl) h
  by_op classes ops.BitNot is e l t v n h a = fit_unary S.repo (plain_code ops.BitNot is) s.live f s.stack t (record { on = refl; idle = refl; lives = v }) unary_ops.BitNot (λ x fault k. refl) h
  by_op classes ops.CastInt is e l t v n h a = fit_unary S.repo (plain_code ops.CastInt is) s.live f s.stack t (record { on = refl; idle = refl; lives = v }) unary_ops.CastInt (λ x fault k. refl) h
  by_op classes ops.CastString is e l t v n h a = fit_unary S.repo (plain_code ops.CastString is) s.live f s.stack t (record { on = refl; idle = refl; lives = v }) unary_ops.CastString (λ x fault k. refl) h
  by_op classes ops.Not is e l t v n h a = fit_unary S.repo (plain_code ops.Not is) s.live f s.stack t (record { on = refl; idle = refl; lives = v }) unary_ops.Not (λ x fault k. absurd (cc)) h
  by_op classes ops.CastBool is e l t v n h a = fit_unary S.repo (plain_code ops.CastBool is) s.live f s.stack t (record { on = refl; idle = refl; lives = v }) unary_ops.CastBool (λ x fault k. absurd (cc)) h
  by_op classes ops.IsTypeC is e l t v n h a = fit_test_kind S.repo (plain_code ops.IsTypeC is) s.live f s.stack t (record { on = refl; idle = refl; lives = v }) (is_type_in is) h
  by_op classes ops.IsTypeL is e l t v n h a = fit_test_local_kind S.repo (plain_code ops.IsTypeL is) s.live f s.stack t (record { on = refl; idle = refl; lives = v }) (is_type_in is) (local_of is) b (subst (λ m. local_of is < m) (sym l) (local_inside (bounds_of classes b) (imm_kinds.IsType ∷ []) is e)) refl
  by_op classes ops.InstanceOfD is e l t v n h a = fit_instance_of S.repo (plain_code ops.InstanceOfD is) s.live f s.stack t (record { on = refl; idle = refl; lives = v }) S (class_in is) h
  by_op classes ops.NewVec is e l t v n h a = fit_new_vec S.repo (plain_code ops.NewVec is) s.live f s.stack t (record { on = refl; idle = refl; lives = v }) (count_of is) h
  by_op classes ops.NewKeysetArray is e l t v n h a = fit_new_keyset S.repo (plain_code ops.NewKeysetArray is) s.live f s.stack t (record { on = refl; idle = refl; lives = v }) (count_of is) refl h
  by_op classes ops.NewDictArray is e l t v n h a = fit_push S.repo (plain_code ops.NewDictArray is) s.live f s.stack t (record { on = refl; idle = refl; lives = v }) (cells.Dict [])
  by_op classes ops.AddElemC is e l t v n h a = fit_add_element S.repo (plain_code ops.AddElemC is) s.live f s.stack t (record { on = refl; idle = refl; lives = v }) refl h
  by_op classes ops.AddNewElemC is e l t v n h a = fit_add_new_element S.repo (plain_code ops.AddNewElemC is) s.live f s.stack t (record { on = refl; idle = refl; lives = v }) refl h
  by_op classes ops.Jmp is e l t v n h a = fit_jump S.repo (plain_code ops.Jmp is) s.live f s.stack t v (target_in is) (jump_target ops.Jmp is (bounds_of classes b) e) refl
  by_op classes ops.JmpZ is e l t v n h a = fit_jump_where S.repo (plain_code ops.JmpZ is) s.live f s.stack t v false (target_in is) refl (jump_target ops.JmpZ is (bounds_of classes b) e) refl h
  by_op classes ops.JmpNZ is e l t v n h a = fit_jump_where S.repo (plain_code ops.JmpNZ is) s.live f s.stack t v true (target_in is) refl (jump_target ops.JmpNZ is (bounds_of classes b) e) refl h
  by_op classes ops.Switch is e l t v n h a =
      let k = arms_behind ops.Switch is (bounds_of classes b) e in
      subst (λ arms. Fits S.repo (plain_code ops.Switch is) s.live (drop 1 s.stack) f (λ w. switch (int_of is) arms f w)) (sym k.are)
      (fit_switch S.repo (plain_code ops.Switch is) s.live f s.stack t v (int_of is) k.first k.more k.among refl h)
  by_op classes ops.SSwitch is e l t v n h a =
      let k = text_arms ops.SSwitch is (bounds_of classes b) e in
      subst (λ arms. Fits S.repo (plain_code ops.SSwitch is) s.live (drop 1 s.stack) f (λ w. switch_text arms f w)) (sym k.are)
      (fit_switch_text S.repo (plain_code ops.SSwitch is) s.live f s.stack t v k.first k.more k.among refl h)
  by_op classes ops.RetC is e l t v n h a = fit_return S.repo (plain_code ops.RetC is) s.live f s.stack t v h
  by_op classes ops.Throw is e l t v n h a = fit_throw S.repo (plain_code ops.Throw is) s.live f s.stack t v S refl h
  by_op classes ops.Fatal is e l t v n h a = fit_fatal S.repo (plain_code ops.Fatal is) s.live f s.stack t v User h
  by_op classes ops.ClsCnsD is e l t v n h a = fit_get_constant S.repo (plain_code ops.ClsCnsD is) s.live f s.stack t (record { on = refl; idle = refl; lives = v }) S (name_in is) (class_in is)
  by_op classes ops.FCallFuncD is e l t v n h a = fit_function_call S.repo (plain_code ops.FCallFuncD is) s.live f s.stack t (record { on = refl; idle = refl; lives = v }) (record { may = refl; on = refl; gives = refl; idle = refl }) S (count_of is) (name_in is) (λ m x k. known.functions (name_in is) m x k) h
  by_op classes ops.FCallObjMethodD is e l t v n h a = fit_method_call S.repo (plain_code ops.FCallObjMethodD is) s.live f s.stack t (record { on = refl; idle = refl; lives = v }) (record { may = refl; on = refl; gives = refl; idle = refl }) S (count_of is) (name_in is) (λ o m x k. known.methods o (name_in is) m x k) h
  by_op classes ops.FCallClsMethodD is e l t v n h a = fit_static_call S.repo (plain_code ops.FCallClsMethodD is) s.live f s.stack t (record { on = refl; idle = refl; lives = v }) (record { may = refl; on = refl; gives = refl; idle = refl }) S (count_of is) (name_in is) (class_in is) (λ m x k. known.methods (Some (class_in is)) (name_in is) m x k) h
  by_op classes ops.NewObjD is e l t v n h a = fit_make_object S.repo (plain_code ops.NewObjD is) s.live f s.stack t (record { on = refl; idle = refl; lives = v }) S (class_in is)
  by_op classes ops.FCallCtor is e l t v n h a = fit_constructor_call S.repo (plain_code ops.FCallCtor is) s.live f s.stack t (record { on = refl; idle = refl; lives = v }) (record { may = refl; on = refl; gives = refl; idle = refl }) S (count_of is) (λ o m x k. known.methods o constructor m x k) h
  by_op classes ops.LockObj is e l t v n h a = fit_lock_object S.repo (plain_code ops.LockObj is) s.live f s.stack t (record { on = refl; idle = refl; lives = v }) refl h
  by_op classes ops.This is e l t v n h a = fit_get_this S.repo (plain_code ops.This is) s.live f s.stack t (record { on = refl; idle = refl; lives = v }) refl
  by_op classes ops.BareThis is e l t v n h a = fit_push S.repo (plain_code ops.BareThis is) s.live f s.stack t (record { on = refl; idle = refl; lives = v }) (this_or_null f.this)
  by_op classes ops.CheckThis is e l t v n h a = fit_check_this S.repo (plain_code ops.CheckThis is) s.live f s.stack t (record { on = refl; idle = refl; lives = v }) refl
  by_op classes ops.IterInit is e l t v n h a =
      fit_iter_init S.repo (plain_code ops.IterInit is) s.live f s.stack t v (iter_of is) (iter_locals_in is) (target_in is)
      (subst (λ m. iter_of is < m) (sym n) (iter_inside (bounds_of classes b) (imm_kinds.IterLocals ∷ imm_kinds.Label ∷ []) is e)) refl refl (iter_target ops.IterInit is (bounds_of classes b) e) refl a.0 h
  by_op classes ops.IterNext is e l t v n h a =
      fit_iter_next S.repo (plain_code ops.IterNext is) s.live f s.stack t v (iter_of is) (iter_locals_in is) (target_in is)
      refl (iter_target ops.IterNext is (bounds_of classes b) e) refl a.0
  by_op classes ops.IterFree is e l t v n h a = fit_iter_free S.repo (plain_code ops.IterFree is) s.live f s.stack t v (iter_of is) refl refl a.0
  by_op classes ops.VerifyParamType is e l t v n h a = fit_verify_local S.repo (plain_code ops.VerifyParamType is) s.live f s.stack t (record { on = refl; idle = refl; lives = v }) S (local_of is) (constraint_in is) (subst (λ m. local_of is < m) (sym l) (local_inside (bounds_of classes b) (imm_kinds.Constraint ∷ []) is e)) refl
  by_op classes ops.VerifyRetTypeC is e l t v n h a = fit_verify_top S.repo (plain_code ops.VerifyRetTypeC is) s.live f s.stack t (record { on = refl; idle = refl; lives = v }) S (constraint_in is) refl h
  by_op classes ops.Print is e l t v n h a = fit_print S.repo (plain_code ops.Print is) s.live f s.stack t (record { on = refl; idle = refl; lives = v }) refl h

-- every instruction keeps the shapes
pub plain_keeps_shape : (S : Setting) → FindsKnown S → (classes : ℕ) (op : Op) (is : List Imm)
    → KeepsShape S.repo classes (kinds.Plain (record { op = op; imms = is })) (λ b f w. perform S op is b f w)
plain_keeps_shape S known classes op is b f s ready =
    by_op S known b f s classes op is ready.within ready.locals ready.stack ready.live ready.count
    (on_top (op_pops op is) s.stack (leb-true _ _ ready.enough) ready.agrees) ready.iters
