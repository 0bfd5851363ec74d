-- Every code keeps the shapes of frames, an instruction or a member sequence.
use Rattle.std.proofs.Common.{ℕ, Some}
use Rattle.hhbc_repo.specs.declared.code.Code.{Code}
use Rattle.hhbc_repo.specs.declared.code.Code.TheVariants as kinds
use Rattle.hhbc_semantics.specs.Setting.{Setting}
use Rattle.hhbc_semantics.specs.Machine.{perform_code}
use Rattle.hhbc_semantics.specs.ShapeRows.{KeepsShape}
use Rattle.hhbc_semantics.proofs.ShapeCodes.{FindsKnown, plain_keeps_shape}
use Rattle.hhbc_semantics.proofs.ShapeMembers.{member_keeps_shape}

pub code_keeps_shape : (S : Setting) → FindsKnown S → (classes : ℕ) (c : Code)
    → KeepsShape S.repo classes c (λ b f w. perform_code S (Some c) b f w)
code_keeps_shape S known classes (kinds.Plain i) = plain_keeps_shape S known classes i.op i.imms
code_keeps_shape S known classes (kinds.Member m) = member_keeps_shape S classes m
