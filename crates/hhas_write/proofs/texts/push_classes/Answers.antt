use Rattle.std.proofs.Common.{arith}
use Rattle.hhbc_repo.specs.Canonical.{canonical_class}
use Rattle.hhbc_repo.specs.CanonicalText.{class_pieces}
use Rattle.hhas_write.proofs.Written.{written_mapped}
use Rattle.hhas_write.proofs.texts.push_classes.Goals as goal

pub returns : goal.returns
returns c = written_mapped class_pieces (canonical_class c.args.names.now) c.args.classes.now c.loop-class.class-index c.args.out.now c.loop-class.out c.loop-class.invariant (omega arith)
