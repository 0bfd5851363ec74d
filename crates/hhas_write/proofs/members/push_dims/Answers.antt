use Rattle.std.proofs.Common.{arith}
use Rattle.hhbc_repo.specs.Canonical.{canonical_key}
use Rattle.hhbc_repo.specs.CanonicalText.{dim_pieces}
use Rattle.hhas_write.proofs.Written.{written_mapped}
use Rattle.hhas_write.proofs.members.push_dims.Goals as goal

pub returns : goal.returns
returns c = written_mapped (dim_pieces c.args.depth) (canonical_key c.args.scope.now.body) c.args.dims.now c.loop-key.key-index c.args.out.now c.loop-key.out c.loop-key.invariant (omega arith)
