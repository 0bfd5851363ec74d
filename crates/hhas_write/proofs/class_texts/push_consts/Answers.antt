use Rattle.std.proofs.Common.{arith}
use Rattle.hhbc_repo.specs.CanonicalText.{const_pieces}
use Rattle.hhas_write.proofs.Written.{written_listed}
use Rattle.hhas_write.proofs.class_texts.push_consts.Goals as goal

pub returns : goal.returns
returns c = written_listed const_pieces c.args.consts.now c.loop-constant.constant-index c.args.out.now c.loop-constant.out c.loop-constant.invariant (omega arith)
