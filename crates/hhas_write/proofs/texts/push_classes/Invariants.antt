use Rattle.std.proofs.Common.{◌≡◌, ◌++◌, take}
use Rattle.std.specs.List.{flat_map}
use Rattle.hhas_lex.specs.Spaced.{text_of}
use Rattle.hhbc_repo.specs.Canonical.{canonical_class}
use Rattle.hhbc_repo.specs.CanonicalText.{class_pieces}
use Rattle.hhbc_repo.specs.declared.repo.Class.{Class}
use Rattle.hhas_write.proofs.texts.push_classes.Given as goal

abbrev pub invariant-loop-class : goal.invariant-loop-class
invariant-loop-class l = l.out ≡ l.fn.out ++ flat_map (λ (c : Class). text_of (class_pieces (canonical_class l.names c))) (take l.class-index l.classes)
