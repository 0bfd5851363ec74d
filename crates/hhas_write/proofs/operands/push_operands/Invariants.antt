use Rattle.std.proofs.Common.{◌≡◌, ◌++◌, take}
use Rattle.std.specs.List.{flat_map}
use Rattle.hhas_lex.specs.Spaced.{text_of}
use Rattle.hhbc_repo.specs.Canonical.{canonical_operand}
use Rattle.hhbc_repo.specs.CanonicalText.{operand_pieces}
use Rattle.hhbc_repo.specs.declared.code.Imm.{Imm}
use Rattle.hhas_write.proofs.operands.push_operands.Given as goal

abbrev pub invariant-loop-operand : goal.invariant-loop-operand
invariant-loop-operand l = l.out ≡ l.fn.out ++ flat_map (λ (i : Imm). text_of (operand_pieces l.op (canonical_operand l.scope.classes l.scope.body i))) (take l.operand-index l.operands)
