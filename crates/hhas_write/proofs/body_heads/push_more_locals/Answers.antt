use Rattle.std.proofs.Common.{arith}
use Rattle.hhbc_repo.specs.CanonicalText.{more_local}
use Rattle.hhas_write.proofs.Written.{written_listed}
use Rattle.hhas_write.proofs.body_heads.push_more_locals.Goals as goal

pub returns : goal.returns
returns c = written_listed more_local c.args.names.now c.loop-name.name-index c.args.out.now c.loop-name.out c.loop-name.invariant (omega arith)
