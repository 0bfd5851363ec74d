use Rattle.std.proofs.Common.{◌≡◌, ◌++◌, take}
use Rattle.std.specs.List.{flat_map}
use Rattle.hhas_lex.specs.Spaced.{text_of}
use Rattle.hhbc_repo.specs.CanonicalText.{const_pieces}
use Rattle.hhbc_repo.specs.declared.repo.Const.{Const}
use Rattle.hhas_write.proofs.class_texts.push_consts.Given as goal

abbrev pub invariant-loop-constant : goal.invariant-loop-constant
invariant-loop-constant l = l.out ≡ l.fn.out ++ flat_map (λ (k : Const). text_of (const_pieces k)) (take l.constant-index l.consts)
