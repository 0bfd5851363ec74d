use Rattle.std.proofs.Common.{arith}
use Rattle.hhas_lex.specs.Spaced.{text_of}
use Rattle.hhbc_repo.specs.declared.repo.Property.{Property}
use Rattle.hhbc_repo.specs.Canonical.{canonical_property}
use Rattle.hhbc_repo.specs.CanonicalText.{property_pieces}
use Rattle.hhas_write.proofs.Written.{written_mapped, written_more}
use Rattle.hhas_write.proofs.class_texts.push_properties.Goals as goal

pub loop-property-preserved : goal.loop-property-preserved
loop-property-preserved c =
    written_more (λ (x : Property). text_of (property_pieces (canonical_property c.args.classes.now x))) c.args.properties.now c.loop-property.property-index c.property-item.result c.args.out.now c.loop-property.out c.push_property.new.out
    c.loop-property.invariant c.loop-property-test.true c.property-item.is c.in_ok-push_property.ensures

pub returns : goal.returns
returns c = written_mapped property_pieces (canonical_property c.args.classes.now) c.args.properties.now c.loop-property.property-index c.args.out.now c.loop-property.out c.loop-property.invariant (omega arith)
