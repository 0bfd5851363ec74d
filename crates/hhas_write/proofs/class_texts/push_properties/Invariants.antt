use Rattle.std.proofs.Common.{◌≡◌, ◌++◌, take}
use Rattle.std.specs.List.{flat_map}
use Rattle.hhas_lex.specs.Spaced.{text_of}
use Rattle.hhbc_repo.specs.Canonical.{canonical_property}
use Rattle.hhbc_repo.specs.CanonicalText.{property_pieces}
use Rattle.hhbc_repo.specs.declared.repo.Property.{Property}
use Rattle.hhas_write.proofs.class_texts.push_properties.Given as goal

abbrev pub invariant-loop-property : goal.invariant-loop-property
invariant-loop-property l = l.out ≡ l.fn.out ++ flat_map (λ (p : Property). text_of (property_pieces (canonical_property l.classes p))) (take l.property-index l.properties)
