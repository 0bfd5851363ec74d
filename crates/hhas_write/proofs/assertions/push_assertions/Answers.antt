use Rattle.std.proofs.Common.{arith}
use Rattle.hhbc_repo.specs.Canonical.{canonical_assert}
use Rattle.hhbc_repo.specs.CanonicalText.{assert_pieces}
use Rattle.hhas_write.proofs.Written.{written_mapped}
use Rattle.hhas_write.proofs.assertions.push_assertions.Goals as goal

pub returns : goal.returns
returns c = written_mapped (assert_pieces c.args.depth) (canonical_assert c.args.scope.now.classes c.args.scope.now.body) c.args.claims.now c.loop-claim.claim-index c.args.out.now c.loop-claim.out c.loop-claim.invariant (omega arith)
