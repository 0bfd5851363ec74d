use Rattle.std.proofs.Common.{◌≡◌, ◌++◌, take}
use Rattle.std.specs.List.{flat_map}
use Rattle.hhas_lex.specs.Spaced.{text_of}
use Rattle.hhbc_repo.specs.Canonical.{canonical_body}
use Rattle.hhbc_repo.specs.CanonicalText.{function_pieces}
use Rattle.hhbc_repo.specs.declared.body.Body.{Body}
use Rattle.hhas_write.proofs.texts.push_functions.Given as goal

abbrev pub invariant-loop-function : goal.invariant-loop-function
invariant-loop-function l = l.out ≡ l.fn.out ++ flat_map (λ (b : Body). text_of (function_pieces (canonical_body l.classes b))) (take l.function-index l.functions)
