-- What turns of the codes of constants and locals do to the world.
use Rattle.std.proofs.Common.{◌≡◌, ℕ, refl, Bool, true, Option, Some, None, List, [], ◌∷◌, ◌++◌, slice_get, length}
use Rattle.hack_values.specs.declared.cell.Cell.{Cell}
use Rattle.hack_values.specs.declared.cell.Cell.TheVariants as cells
use Rattle.hack_values.specs.declared.cell.Slot.{Slot}
use Rattle.hack_values.specs.declared.cell.Slot.TheVariants as slots
use Rattle.hhbc_ops.specs.Ops.{op_throws}
use Rattle.hhbc_ops.specs.declared.op.Op.{Op}
use Rattle.hhbc_ops.specs.declared.op.Op.TheVariants as ops
use Rattle.hhbc_repo.specs.declared.code.Code.{Code}
use Rattle.hhbc_repo.specs.declared.code.Code.TheVariants as kinds
use Rattle.hhbc_repo.specs.declared.code.Imm.{Imm}
use Rattle.hhbc_repo.specs.declared.body.Body.{Body}
use Rattle.hhbc_repo.specs.Codes.{local_of, throws}
use Rattle.hhbc_semantics.specs.Setting.{Setting}
use Rattle.hhbc_semantics.specs.LocalCodes.{IsLocalOp, IsLocalCode}
use Rattle.hhbc_semantics.specs.Exceptions.{exception, undefined_variable}
use Rattle.hhbc_semantics.specs.Frames.{World, Frame, Turn, Goes, Calls, Returns, Raises, Ends}
use Rattle.hhbc_semantics.specs.Machine.{perform_code}
use Rattle.hhbc_semantics.specs.Operands.{with_cell, read_slot, name_or_none}
use Rattle.hhbc_semantics.specs.Rows.{perform}

-- a turn changes nothing that all frames share, but to raise the exception of an undefined variable, where it may throw
abbrev pub Does : Bool → World → Turn → Type 0
Does may w (Goes g v) = v ≡ w
Does may w (Calls g v) = ⊥
Does may w (Returns c v) = v ≡ w
Does may w (Raises e v) =
    (may ≡ true) × (e ≡ cells.Obj (length w.heap))
    × (message : List ℕ) × (v.heap ≡ w.heap ++ exception undefined_variable message ∷ [])
Does may w (Ends e v) = v ≡ w

does_cell : (may : Bool) (w : World) (ss : List Slot) (go : Cell → List Slot → Turn) → ((c : Cell) (rest : List Slot) → Does may w (go c rest)) → Does may w (with_cell ss w go)
does_cell may w [] go h = refl
does_cell may w (slots.Uninit ∷ rest) go h = refl
does_cell may w (slots.Cell c ∷ rest) go h = h c rest

does_local : (w : World) (s : Option Slot) (name : List ℕ) (go : Cell → Turn) → ((c : Cell) → Does true w (go c)) → Does true w (read_slot s name w go)
does_local w None name go h = refl
does_local w (Some slots.Uninit) name go h = (refl, refl, _, refl)
does_local w (Some (slots.Cell c)) name go h = h c

does_op : (S : Setting) (op : Op) (is : List Imm) (b : Body) (f : Frame) (w : World) → IsLocalOp op → Does (op_throws op) w (perform S op is b f w)
does_op S ops.Null is b f w local = refl
does_op S ops.True is b f w local = refl
does_op S ops.False is b f w local = refl
does_op S ops.Int is b f w local = refl
does_op S ops.PopC is b f w local = does_cell _ w f.stack _ (λ c rest. refl)
does_op S ops.SetL is b f w local = does_cell _ w f.stack _ (λ c rest. refl)
does_op S ops.CGetL is b f w local = does_local w (slice_get f.locals (local_of is)) (name_or_none (slice_get b.locals (local_of is))) _ (λ c. refl)
does_op S ops.RetC is b f w local = does_cell _ w f.stack _ (λ c rest. refl)
does_op S _ is b f w local = absurd local

pub does_code : (S : Setting) (c : Code) (b : Body) (f : Frame) (w : World) → IsLocalCode c → Does (throws c) w (perform_code S (Some c) b f w)
does_code S (kinds.Plain i) b f w local = does_op S i.op i.imms b f w local
does_code S (kinds.Member m) b f w local = absurd local
