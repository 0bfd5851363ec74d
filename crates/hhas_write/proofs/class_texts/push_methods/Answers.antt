use Rattle.std.proofs.Common.{arith}
use Rattle.hhas_lex.specs.Spaced.{text_of}
use Rattle.hhbc_repo.specs.declared.body.Body.{Body}
use Rattle.hhbc_repo.specs.Canonical.{canonical_body}
use Rattle.hhbc_repo.specs.CanonicalText.{method_pieces}
use Rattle.hhas_write.proofs.Written.{written_mapped, written_more}
use Rattle.hhas_write.proofs.class_texts.push_methods.Goals as goal

pub loop-method-preserved : goal.loop-method-preserved
loop-method-preserved c =
    written_more (λ (x : Body). text_of (method_pieces (canonical_body c.args.classes.now x))) c.args.methods.now c.loop-method.method-index c.method-item.result c.args.out.now c.loop-method.out c.push_body.new.out
    c.loop-method.invariant c.loop-method-test.true c.method-item.is c.in_ok-push_body.ensures

pub returns : goal.returns
returns c = written_mapped method_pieces (canonical_body c.args.classes.now) c.args.methods.now c.loop-method.method-index c.args.out.now c.loop-method.out c.loop-method.invariant (omega arith)
