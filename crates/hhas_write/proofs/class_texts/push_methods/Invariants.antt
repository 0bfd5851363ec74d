use Rattle.std.proofs.Common.{◌≡◌, ◌++◌, take}
use Rattle.std.specs.List.{flat_map}
use Rattle.hhas_lex.specs.Spaced.{text_of}
use Rattle.hhbc_repo.specs.Canonical.{canonical_body}
use Rattle.hhbc_repo.specs.CanonicalText.{method_pieces}
use Rattle.hhbc_repo.specs.declared.body.Body.{Body}
use Rattle.hhas_write.proofs.class_texts.push_methods.Given as goal

abbrev pub invariant-loop-method : goal.invariant-loop-method
invariant-loop-method l = l.out ≡ l.fn.out ++ flat_map (λ (b : Body). text_of (method_pieces (canonical_body l.classes b))) (take l.method-index l.methods)
