use Rattle.std.proofs.Common.{arith}
use Rattle.hhas_lex.specs.Spaced.{text_of}
use Rattle.hhbc_repo.specs.declared.body.Body.{Body}
use Rattle.hhbc_repo.specs.Canonical.{canonical_body}
use Rattle.hhbc_repo.specs.CanonicalText.{function_pieces}
use Rattle.hhas_write.proofs.Written.{written_mapped, written_more}
use Rattle.hhas_write.proofs.texts.push_functions.Goals as goal

pub loop-function-preserved : goal.loop-function-preserved
loop-function-preserved c =
    written_more (λ (x : Body). text_of (function_pieces (canonical_body c.args.classes.now x))) c.args.functions.now c.loop-function.function-index c.function-item.result c.args.out.now c.loop-function.out c.push_body.new.out
    c.loop-function.invariant c.loop-function-test.true c.function-item.is c.in_ok-push_body.ensures

pub returns : goal.returns
returns c = written_mapped function_pieces (canonical_body c.args.classes.now) c.args.functions.now c.loop-function.function-index c.args.out.now c.loop-function.out c.loop-function.invariant (omega arith)
