-- The codes of constants and locals: those that the flow of types has rows for.
use Rattle.std.specs.Prelude.{◌≡◌, ℕ, Some}
use Rattle.hhbc_ops.specs.declared.op.Op.{Op}
use Rattle.hhbc_ops.specs.declared.op.Op.TheVariants as ops
use Rattle.hhbc_repo.specs.declared.code.Code.{Code}
use Rattle.hhbc_repo.specs.declared.code.Code.TheVariants as kinds
use Rattle.hhbc_repo.specs.declared.body.Body.{Body}
use Rattle.hhbc_repo.specs.Linked.{Linked}
use Rattle.hhbc_repo.specs.Bodies.{body_at, code_at}

abbrev pub IsLocalOp : Op → Type 0
IsLocalOp ops.Null = Unit {0}
IsLocalOp ops.True = Unit {0}
IsLocalOp ops.False = Unit {0}
IsLocalOp ops.Int = Unit {0}
IsLocalOp ops.PopC = Unit {0}
IsLocalOp ops.SetL = Unit {0}
IsLocalOp ops.CGetL = Unit {0}
IsLocalOp ops.RetC = Unit {0}
IsLocalOp _ = ⊥

-- one of the eight instructions of constants and locals
abbrev pub IsLocalCode : Code → Type 0
IsLocalCode (kinds.Plain i) = IsLocalOp i.op
IsLocalCode (kinds.Member m) = ⊥

-- each code of each body is one of the eight
abbrev pub OnlyLocalCodes : Linked → Type 0
OnlyLocalCodes r = (n : ℕ) (b : Body) → body_at r n ≡ Some b → (p : ℕ) (c : Code) → code_at b p ≡ Some c → IsLocalCode c
